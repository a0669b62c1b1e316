use Rattle.planes.proofs.Mixing.{Mixing}
use Rattle.planes.proofs.mix.Given as goal

abbrev pub invariant-loop-weight : goal.invariant-loop-weight
invariant-loop-weight l = Mixing l.weights l.inputs l.stride l.frame l.sum l.at l.weight-index
