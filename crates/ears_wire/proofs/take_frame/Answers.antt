-- `ears_wire::take_frame` meets its contract: `Sampling`. Assumes nothing.
use Rattle.big_endian.specs.Lists.{strided}
use Rattle.planes.proofs.Framing.{sampling_all}
use Rattle.ears_wire.proofs.take_frame.Invariants.{channel}
use Rattle.ears_wire.proofs.take_frame.Goals as goal

pub returns : goal.returns
unfolding strided
returns c =
    sampling_all c.args.inputs.now c.args.stride c.args.n 6 (channel c.args.bytes.now) c.loop-c.inputs c.loop-c.c
    c.loop-c.invariant c.loop-c-test.false
