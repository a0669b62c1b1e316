-- `hrtf::frames::one_frame` meets its contract: `turned` puts together what the callees promise. Assumes nothing.
use Rattle.planes.specs.Planes.{frame_at}
use Rattle.hrtf.proofs.Playing.{turned}
use Rattle.hrtf.proofs.frames.one_frame.Goals as goal

pub returns : goal.returns
returns c =
    let a = c.args in
    turned a.scaled.shape a.weights.now a.row_of.now a.taps.now (record { rings = a.rings.now; desk = a.desk })
    (frame_at a.inputs.now a.stride a.scaled.shape.channels a.n)
    a.stride a.n a.ears.now _ _ _ _ _ _
    c.mix_frame-damaged.ensures c.ears_of-heard.ensures c.put_sample.ensures
    c.put_sample-2.ensures
    c.is_late.ensures
