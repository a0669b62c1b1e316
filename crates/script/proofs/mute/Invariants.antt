use Rattle.formats.specs.Floats.{zero_float}
use Rattle.planes.proofs.Framing.{Sampling}
use Rattle.script.proofs.mute.Given as goal

abbrev pub invariant-loop-p : goal.invariant-loop-p
invariant-loop-p l = Sampling l.initial.out l.stride l.frame l.planes (λ k. zero_float) l.out l.p
