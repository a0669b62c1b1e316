-- `replay::play::put_ears` meets its contract: `Earing`. Assumes nothing.
use Rattle.lists.specs.Prelude.{arith}
use Rattle.planes.specs.Planes.{frame_at}
use Rattle.replay.proofs.Ears.{earing_more}
use Rattle.replay.proofs.play.put_ears.Goals as goal

pub loop-n-preserved : goal.loop-n-preserved
loop-n-preserved c =
    let a = c.args in
    earing_more a.ears.now a.ear_stride a.done a.count (frame_at a.block_ears.now 64 2)
    c.loop-n.ears c.loop-n.n c.loop-n.invariant _ (omega arith) c.put_pair.ensures
