use Rattle.planes.specs.Planes.{frame_at}
use Rattle.replay.proofs.Ears.{Earing}
use Rattle.replay.proofs.play.put_ears.Given as goal

abbrev pub invariant-loop-n : goal.invariant-loop-n
invariant-loop-n l = Earing l.initial.ears l.ear_stride l.done l.count (frame_at l.block_ears 64 2) l.ears l.n
