use Rattle.std.specs.Prelude.{◌≡◌, length}
use Rattle.probe.proofs.skip.Given as goal

abbrev pub invariant-loop-left : goal.invariant-loop-left
invariant-loop-left g l = length l.args ≡ length l.initial.args

-- what is left falls with each part, or the input has ended
abbrev pub decreases-loop-left : goal.decreases-loop-left
decreases-loop-left g l = l.left
