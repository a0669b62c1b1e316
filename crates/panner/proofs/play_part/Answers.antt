-- `panner::play_part` meets its contract: `planes`' `Parting`. Assumes nothing.
use Rattle.lists.specs.Prelude.{ap, ◌∙◌, arith, Float}
use Rattle.planes.specs.Planes.{sample_at, with_frame}
use Rattle.planes.proofs.Framing.{parting_more}
use Rattle.panner.specs.Blocks.{panned}
use Rattle.panner.proofs.play_part.Goals as goal

pub loop-n-preserved : goal.loop-n-preserved
loop-n-preserved c =
    let a = c.args in
    let few = c.min-few.result in
    let at = c.loop-n in
    parting_more a.out.now a.stride a.from a.to
    (λ k. panned few a.gains (sample_at a.input.now a.stride 0 k)) at.out at.n at.invariant c.pan.new.out
    (omega (arith, c.loop-n-test.true))
    (c.pan.ensures ∙ ap (λ (y : Float). with_frame at.out a.stride at.n (panned few a.gains y)) c.sample.ensures)
