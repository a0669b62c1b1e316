-- `replay::gather::put_frame` meets its contract: `planes`' `Sampling`, whatever the source gives. Assumes nothing.
use Rattle.lists.specs.Prelude.{arith}
use Rattle.planes.proofs.Framing.{sampling_none, sampling_more, sampling_all}
use Rattle.replay.proofs.gather.put_frame.Goals as goal

pub loop-p-init : goal.loop-p-init
loop-p-init g c = λ f gives. let a = c.args in sampling_none a.block.now 64 a.place a.channels f

pub loop-p-preserved : goal.loop-p-preserved
loop-p-preserved g c =
    let a = c.args in
    λ f gives. sampling_more a.block.now 64 a.place a.channels f c.loop-p.block c.loop-p.p
    (c.loop-p.invariant f gives) _ c.put_sample.new.xs (omega arith) (gives _ _ (omega arith) c.source.ensures)
    c.put_sample.ensures

pub returns : goal.returns
returns g c =
    let a = c.args in
    λ f gives. sampling_all a.block.now 64 a.place a.channels f c.loop-p.block c.loop-p.p (c.loop-p.invariant f gives)
    (omega arith)
