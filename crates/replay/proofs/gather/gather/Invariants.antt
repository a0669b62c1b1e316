use Rattle.replay.specs.Recording.{recording}
use Rattle.replay.specs.Computed.{Gathering}
use Rattle.replay.proofs.Gathering.{left_of}
use Rattle.replay.proofs.gather.gather.Given as goal

abbrev pub invariant-loop-block : goal.invariant-loop-block
invariant-loop-block l =
    Gathering (recording l.stamps l.channels l.stride l.inputs l.frames) l.channels
    l.initial.so_far.expected l.at l.frames l.so_far l.block

abbrev pub decreases-loop-block : goal.decreases-loop-block
decreases-loop-block l =
    left_of (recording l.stamps l.channels l.stride l.inputs l.frames) l.channels l.frames l.so_far
