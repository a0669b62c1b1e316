use Rattle.lists.specs.Prelude.{length}
use Rattle.hrtf_rings.proofs.TwoRuns.{Running}
use Rattle.hrtf.proofs.parts.run_back.Given as goal

abbrev pub invariant-loop-k : goal.invariant-loop-k
invariant-loop-k l =
    Running l.cells l.left l.initial.to_left (length l.cells) l.to_left l.k
    × Running l.cells l.right l.initial.to_right (length l.cells) l.to_right l.k
