-- `hrtf_setup::new_ambisonic` meets its contract. Assumes nothing.
use Rattle.std.specs.Prelude.{Err}
use Rattle.lists.specs.Prelude.{refl, sym, ap, ◌∙◌}
use Rattle.refusals.proofs.Numbers.{handed_on}
use Rattle.channel.specs.Layouts.{count_told}
use Rattle.channel.proofs.Orders.{order_well, order_refused}
use Rattle.hrtf_setup.specs.Arrangement.{setup_answer}
use Rattle.hrtf_setup.proofs.Arranging.{order_refused_lem, order_arranged}
use Rattle.hrtf_setup.proofs.new_ambisonic.Goals as goal

pub returns-in_err-n : goal.returns-in_err-n
returns-in_err-n c =
    let a = c.args in
    let why = order_refused a.order _ c.in_err-n.ensures in
    order_refused_lem a.order a.azimuths.now a.elevations.now a.rows a.weights.now a.row_of.now _ why.0
    (ap setup_answer (handed_on _ _ c.from_residual.ensures.1) ∙ ap (λ r. setup_answer (Err r)) why.1)

pub returns : goal.returns
returns c =
    let a = c.args in
    let past = order_well a.order _ c.in_ok-n.ensures refl in
    order_arranged a.order a.azimuths.now a.elevations.now a.rows a.weights.now a.row_of.now _ past.0 past.1 _
    c.arrange.ensures
