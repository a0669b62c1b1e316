use Rattle.lists.specs.Prelude.{ℕ, List, Float}
use Rattle.planes.specs.Planes.{frame_at}
use Rattle.planes.specs.Sums.{mixed_all}
use Rattle.planes.proofs.Framing.{Framing}
use Rattle.ambisonic_decoder.specs.declared.DecoderShape.{DecoderShape}
use Rattle.ambisonic_decoder.proofs.play.Given as goal

-- a frame of the outputs
abbrev outputs_at : DecoderShape → List Float → List Float → ℕ → List Float
outputs_at shape weights inputs n =
    mixed_all shape.outputs shape.channels weights (frame_at inputs shape.stride shape.channels n)

abbrev pub invariant-loop-n : goal.invariant-loop-n
invariant-loop-n l =
    Framing l.initial.out l.shape.stride l.shape.frames (outputs_at l.shape l.weights l.inputs) l.out l.n
