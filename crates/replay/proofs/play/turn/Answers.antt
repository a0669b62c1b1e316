-- `replay::play::turn` meets its contract: `Turning`. Assumes nothing.
use Rattle.lists.specs.Prelude.{arith}
use Rattle.hrtf.proofs.Meets.{block_promised}
use Rattle.replay.specs.Computed.{recording_of}
use Rattle.replay.proofs.Turning.{turn_room, turn_ok, turn_few, turn_made}
use Rattle.replay.proofs.play.turn.Goals as goal

pub unwrap-played-requires : goal.unwrap-played-requires
unwrap-played-requires c =
    let a = c.args in
    let line = recording_of a.shape a.frames a.stride a.stamps.now a.inputs.now a.weights.now a.row_of.now a.taps.now
    a.ear_stride in
    turn_ok line a.so_far c.gather-got.ensures c.requires.recording_checked c.requires.block_and_state_fit
    (omega (arith, c.gather-got.auto)) _ c.process.ensures

-- the frames that are gathered have room
pub put_ears-requires : goal.put_ears-requires
put_ears-requires c =
    let a = c.args in
    let line = recording_of a.shape a.frames a.stride a.stamps.now a.inputs.now a.weights.now a.row_of.now a.taps.now
    a.ear_stride in
    omega (arith, turn_room line a.so_far c.gather-got.ensures c.requires.ears_fit, c.ranges)

pub overflow_add-result : goal.overflow_add-result
overflow_add-result c =
    let a = c.args in
    let line = recording_of a.shape a.frames a.stride a.stamps.now a.inputs.now a.weights.now a.row_of.now a.taps.now
    a.ear_stride in
    omega (arith, turn_room line a.so_far c.gather-got.ensures c.requires.ears_fit, c.ranges)

pub overflow_add-result-2 : goal.overflow_add-result-2
overflow_add-result-2 c =
    let a = c.args in
    let line = recording_of a.shape a.frames a.stride a.stamps.now a.inputs.now a.weights.now a.row_of.now a.taps.now
    a.ear_stride in
    omega (
      arith,
      turn_room line a.so_far c.gather-got.ensures c.requires.ears_fit,
      c.ranges,
      c.requires.ears_fit.few,
      turn_few line a.so_far c.gather-got.ensures c.requires.recording_checked c.requires.block_and_state_fit
          (omega (arith, c.gather-got.auto)) (block_promised c.unwrap-played.ensures c.process.ensures),
    )

pub returns : goal.returns
returns c =
    let a = c.args in
    let line = recording_of a.shape a.frames a.stride a.stamps.now a.inputs.now a.weights.now a.row_of.now a.taps.now
    a.ear_stride in
    turn_made line a.so_far c.gather-got.ensures c.requires.recording_checked c.requires.block_and_state_fit
    (omega (arith, c.gather-got.auto)) (block_promised c.unwrap-played.ensures c.process.ensures)
    a.ears.now c.put_ears.new.ears c.rest_if-rested.new.rings c.rest_if-rested.result
    c.put_ears.ensures c.rest_if-rested.ensures
