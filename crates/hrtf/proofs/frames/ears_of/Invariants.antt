use Rattle.lists.specs.Prelude.{suc}
use Rattle.hrtf.proofs.Ears.{Adding}
use Rattle.hrtf.proofs.frames.ears_of.Given as goal

abbrev pub invariant-loop-s : goal.invariant-loop-s
invariant-loop-s l =
    Adding l.scaled.shape (suc l.position) l.row_of l.taps l.rings l.left l.right l.s
