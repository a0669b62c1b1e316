-- `ears_wire::give_frames` meets its contract. The ears of the frames so far stand at the start. Assumes nothing.
use Rattle.lists.specs.Prelude.{arith}
use Rattle.ears_wire.proofs.Ears.{giving_none, giving_more}
use Rattle.ears_wire.proofs.give_frames.Goals as goal

pub loop-n-init : goal.loop-n-init
loop-n-init c = (omega arith, giving_none c.args.ears.now c.args.stride _)

pub loop-n-preserved : goal.loop-n-preserved
loop-n-preserved c =
    let at = c.loop-n in (
      omega arith,
      giving_more c.args.ears.now c.args.stride c.args.out.now at.n at.out _ (omega arith) at.invariant.1
          c.give_ears.ensures,
    )
