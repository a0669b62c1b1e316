use Rattle.planes.specs.Planes.{sample_at}
use Rattle.planes.proofs.Framing.{Parting}
use Rattle.panner.specs.Blocks.{panned}
use Rattle.panner.proofs.play_part.Given as goal

abbrev pub invariant-loop-n : goal.invariant-loop-n
invariant-loop-n l =
    Parting l.initial.out l.stride l.from l.to (λ k. panned l.few l.gains (sample_at l.input l.stride 0 k)) l.out l.n
