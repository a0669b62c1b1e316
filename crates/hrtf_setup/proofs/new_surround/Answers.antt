-- `hrtf_setup::new_surround` meets its contract. Assumes nothing.
use Rattle.lists.specs.Prelude.{refl, sym, ap, ◌∙◌, not}
use Rattle.channel.specs.Layouts.{CountTold, count_told}
use Rattle.hrtf_setup.proofs.Arranging.{layout_refused_lem, layout_arranged}
use Rattle.hrtf_setup.proofs.new_surround.Goals as goal

pub returns-then-not-is_surround : goal.returns-then-not-is_surround
returns-then-not-is_surround c =
    let a = c.args in
    layout_refused_lem a.layout a.azimuths.now a.elevations.now a.rows a.weights.now a.row_of.now _
    (ap not (sym c.is_surround.ensures) ∙ ap not c.if-not-is_surround.true) refl

pub returns : goal.returns
returns c =
    let a = c.args in
    layout_arranged a.layout a.azimuths.now a.elevations.now a.rows a.weights.now a.row_of.now
    c.unwrap-n.result (ap not (sym c.is_surround.ensures) ∙ ap not c.if-not-is_surround.false)
    (ap (λ (r : CountTold). r.channels) (ap count_told (sym c.unwrap-n.ensures) ∙ c.channel_count.ensures)) _
    c.arrange.ensures
