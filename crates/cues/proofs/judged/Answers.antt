-- `cues::judged` meets its contract: `Judging`. Assumes nothing.
use Rattle.lists.specs.Prelude.{arith}
use Rattle.cues.proofs.Judging.{judging_all}
use Rattle.cues.proofs.judged.Goals as goal

pub returns : goal.returns
returns c =
    judging_all c.args.cues.now c.loop-cue.s
    (omega (arith, c.loop-cue-test.false, c.loop-cue.invariant.place)) c.loop-cue.invariant.so_far
