-- `replay::play::play` meets its contract: `TurnsSoFar`. Assumes nothing.
use Rattle.lists.specs.Prelude.{arith}
use Rattle.replay.proofs.Turning.{loop-kept, turns_then, turns_room}
use Rattle.replay.proofs.play.play.Goals as goal

pub turn-so_far-requires : goal.turn-so_far-requires
turn-so_far-requires c =
    let inv = c.loop-so_far.invariant in
    record {
      recording_checked = c.requires.recording_checked;
      block_and_state_fit = loop-kept inv c.requires.recording_checked c.requires.block_and_state_fit;
      ears_fit = turns_room inv.turns c.requires.ears_fit;
    }

pub loop-so_far-preserved : goal.loop-so_far-preserved
loop-so_far-preserved c =
    let inv = c.loop-so_far.invariant in
    record {
      turns = turns_then inv.turns c.turn-so_far.ensures.turns;
      rings_long = omega (arith, inv.rings_long, c.turn-so_far.auto);
      ears_long = omega (arith, inv.ears_long, c.turn-so_far.auto);
      block_long = omega (arith, inv.block_long, c.turn-so_far.auto);
      own_long = omega (arith, inv.own_long, c.turn-so_far.auto);
    }
