use Rattle.replay.specs.Computed.{recording_of, left_in}
use Rattle.replay.proofs.Turning.{TurnsSoFar}
use Rattle.replay.proofs.play.play.Given as goal

abbrev pub invariant-loop-so_far : goal.invariant-loop-so_far
invariant-loop-so_far l =
    TurnsSoFar (recording_of l.shape l.frames l.stride l.stamps l.inputs l.weights l.row_of l.taps l.ear_stride)
    l.initial.so_far l.initial.rings l.initial.ears l.initial.block l.initial.block_ears l.so_far l.rings l.ears
    l.block l.block_ears

abbrev pub decreases-loop-so_far : goal.decreases-loop-so_far
decreases-loop-so_far l =
    left_in (recording_of l.shape l.frames l.stride l.stamps l.inputs l.weights l.row_of l.taps l.ear_stride) l.so_far
