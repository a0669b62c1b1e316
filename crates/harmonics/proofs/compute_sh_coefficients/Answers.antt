-- `harmonics::compute_sh_coefficients` meets its contract. Assumes nothing.
use Rattle.lists.specs.Prelude.{sym, ap, ◌∙◌}
use Rattle.harmonics.specs.Computed.{harmonics_computed}
use Rattle.harmonics.proofs.Meets.{accepted_kept}
use Rattle.harmonics.proofs.compute_sh_coefficients.Goals as goal

pub returns : goal.returns
returns c =
    accepted_kept _ _ _ (sym c.refuses_order.ensures ∙ c.if-refuses_order.false)
    (sym c.refuses_direction.ensures ∙ c.if-refuses_direction.false)
    (c.gains_of.ensures ∙ ap (harmonics_computed c.args.order) c.waves_of.ensures)
