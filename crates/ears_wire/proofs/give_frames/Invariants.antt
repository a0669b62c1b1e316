use Rattle.std.specs.Prelude.{◌≡◌, ◌≤◌}
use Rattle.lists.specs.Placed.{placed}
use Rattle.planes.specs.Planes.{frames_of}
use Rattle.ears_wire.specs.Ears.{ear_bytes}
use Rattle.ears_wire.proofs.give_frames.Given as goal

abbrev pub invariant-loop-n : goal.invariant-loop-n
invariant-loop-n l = (l.n ≤ l.frames) × (l.out ≡ placed l.initial.out 0 (ear_bytes (frames_of l.ears l.stride 2 l.n)))
