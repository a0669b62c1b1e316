-- `ears_wire::take_frames` meets its contract: `Framing`, over the records. Assumes nothing.
use Rattle.std.specs.Prelude.{◌*◌}
use Rattle.lists.specs.Prelude.{ap, ◌∙◌, ℕ, arith, List}
use Rattle.lists.proofs.Tables.{part_is}
use Rattle.planes.specs.Planes.{with_frame}
use Rattle.planes.proofs.Framing.{framing_more, framing_all}
use Rattle.ears_wire.specs.Records.{whole_in_of}
use Rattle.ears_wire.specs.Frames.{frame_of}
use Rattle.ears_wire.proofs.take_frames.Invariants.{frame}
use Rattle.ears_wire.proofs.take_frames.Goals as goal

pub loop-n-preserved : goal.loop-n-preserved
loop-n-preserved c =
    let a = c.args in
    let at = c.loop-n in
    let bytes = a.bytes.now in
    framing_more a.inputs.now a.stride (whole_in_of 24 bytes) (frame bytes) at.inputs at.n at.invariant _
    (omega (arith, c.requires, c.loop-n-test.true))
    (c.take_frame.ensures ∙ ap (λ (part : List ℕ). with_frame at.inputs a.stride at.n (frame_of part))
    (part_is (at.n * 24) 24 bytes))

pub returns : goal.returns
returns c =
    let a = c.args in
    let at = c.loop-n in
    framing_all a.inputs.now a.stride (whole_in_of 24 a.bytes.now) (frame a.bytes.now) at.inputs
    at.n at.invariant (omega (arith, c.requires, c.loop-n-test.false))
