use Rattle.std.specs.Prelude.{◌*◌}
use Rattle.lists.specs.Prelude.{ℕ, List, Float}
use Rattle.big_endian.specs.Fields.{float_at}
use Rattle.planes.proofs.Framing.{Sampling}
use Rattle.ears_wire.proofs.take_frame.Given as goal

-- channel c of a frame
abbrev pub channel : List ℕ → ℕ → Float
channel bytes c = float_at bytes (c * 4)

abbrev pub invariant-loop-c : goal.invariant-loop-c
invariant-loop-c l = Sampling l.initial.inputs l.stride l.n 6 (channel l.bytes) l.inputs l.c
