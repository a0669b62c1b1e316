-- `panner::pan` meets its contract: `planes`' `Sampling`. Assumes nothing.
use Rattle.std.specs.Prelude.{◌<◌}
use Rattle.lists.specs.Prelude.{ap, arith, length-take, get_or, get_or-take, nan, Float, binary32, mul}
use Rattle.planes.proofs.Framing.{sampling_more}
use Rattle.panner.proofs.pan.Goals as goal

pub loop-p-preserved : goal.loop-p-preserved
loop-p-preserved c =
    let a = c.args in
    let at = c.loop-p in
    let h : at.p < a.planes = omega (arith, c.loop-p-test.true, length-take {A = Float}) in
    sampling_more a.out.now a.stride a.frame a.planes (λ k. mul binary32 a.x (get_or a.gains k nan))
    at.out at.p at.invariant _ c.put_sample.new.xs h
    (ap (mul binary32 a.x) (get_or-take a.planes a.gains at.p nan h)) c.put_sample.ensures
