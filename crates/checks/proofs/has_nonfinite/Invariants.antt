use Rattle.lists.specs.Prelude.{length, map}
use Rattle.checks.proofs.Checks.{Passing, is_nonfinite_at, element_at}
use Rattle.checks.proofs.has_nonfinite.Given as goal

-- the loop has passed no element whose number is not finite
abbrev pub invariant-loop-x : goal.invariant-loop-x
invariant-loop-x g l =
    Passing (is_nonfinite_at (element_at (map g.T.Sample.number l.list))) (length l.list) l.x-index
