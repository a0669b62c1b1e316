-- `replay::gather::gather` meets its contract: `Gathering`. Assumes nothing.
use Rattle.lists.specs.Prelude.{sym, ◌∙◌}
use Rattle.replay.proofs.Gathering.{gathering_more}
use Rattle.replay.proofs.Gathering.{gathering_less, gathering_all}
use Rattle.replay.proofs.gather.gather.Goals as goal

pub loop-block-smaller : goal.loop-block-smaller
loop-block-smaller c =
    let a = c.args in
    gathering_less a.stamps.now a.channels a.stride a.inputs.now a.expected a.at a.frames
    c.loop-block.invariant
    (sym c.goes_on.ensures ∙ c.loop-block-test.true) c.take_one-so_far.ensures

pub loop-block-preserved : goal.loop-block-preserved
loop-block-preserved c =
    let a = c.args in
    gathering_more a.stamps.now a.channels a.stride a.inputs.now a.expected a.at a.frames
    c.loop-block.invariant
    (sym c.goes_on.ensures ∙ c.loop-block-test.true) c.take_one-so_far.ensures

pub returns : goal.returns
returns c =
    let a = c.args in
    gathering_all a.stamps.now a.channels a.stride a.inputs.now a.expected a.at a.frames
    c.loop-block.invariant (sym c.goes_on.ensures ∙ c.loop-block-test.false)
