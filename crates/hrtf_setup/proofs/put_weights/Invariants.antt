use Rattle.lists.specs.Prelude.{length}
use Rattle.lists.proofs.Filling.{Filling}
use Rattle.hrtf_setup.specs.Speakers.{weight_at}
use Rattle.hrtf_setup.proofs.put_weights.Given as goal

abbrev pub invariant-loop-i : goal.invariant-loop-i
invariant-loop-i l = Filling (weight_at l.whose l.n) (length l.initial.weights) l.initial.weights l.weights l.i
