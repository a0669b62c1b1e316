use Rattle.planes.proofs.Framing.{Parting}
use Rattle.script.specs.Rendering.{silent}
use Rattle.script.proofs.silence.Given as goal

abbrev pub invariant-loop-n : goal.invariant-loop-n
invariant-loop-n l = Parting l.initial.out l.stride l.from l.to (λ k. silent l.planes) l.out l.n
