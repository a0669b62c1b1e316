use Rattle.hrtf_rings.proofs.TwoRuns.{Running}
use Rattle.hrtf_rings.proofs.run_back.Given as goal

abbrev pub invariant-loop-k : goal.invariant-loop-k
invariant-loop-k l = Running l.cells l.taps l.sum l.count l.total l.k
