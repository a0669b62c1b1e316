use Rattle.stamps.proofs.Planning.{Planning}
use Rattle.stamps.proofs.plan.Given as goal

abbrev pub invariant-loop-stamp : goal.invariant-loop-stamp
invariant-loop-stamp l = Planning l.fn.expected l.stamps l.room l.so_far l.stamp-index
