use Rattle.lists.specs.Prelude.{ℕ, List, Float}
use Rattle.lists.specs.Tables.{chunk}
use Rattle.planes.proofs.Framing.{Framing}
use Rattle.ears_wire.specs.Records.{whole_in_of}
use Rattle.ears_wire.specs.Frames.{frame_of}
use Rattle.ears_wire.proofs.take_frames.Given as goal

-- frame n of the bytes
abbrev pub frame : List ℕ → ℕ → List Float
frame bytes n = frame_of (chunk 24 n bytes)

abbrev pub invariant-loop-n : goal.invariant-loop-n
invariant-loop-n l = Framing l.initial.inputs l.stride (whole_in_of 24 l.bytes) (frame l.bytes) l.inputs l.n
