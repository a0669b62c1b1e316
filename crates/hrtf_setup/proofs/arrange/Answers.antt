-- `hrtf_setup::arrange` meets its contract: `refused_at` or `arranged` of `Arranging` for each answer. Assumes nothing.
use Rattle.lists.specs.Prelude.{refl, sym, ap, ◌∙◌, not, ne_eqb}
use Rattle.checks.proofs.Checks.{equal_passes}
use Rattle.hrtf_setup.proofs.Arranging.{refused_at, arranged}
use Rattle.hrtf_setup.proofs.arrange.Goals as goal

pub returns-then-is_outside : goal.returns-then-is_outside
returns-then-is_outside c =
    let a = c.args in
    refused_at a.whose a.speakers a.channels a.azimuths.now a.elevations.now a.rows a.weights.now a.row_of.now 0 1 _
    refl (sym c.is_outside.ensures ∙ c.if-is_outside.true) refl

pub returns-then-azimuths-ne8 : goal.returns-then-azimuths-ne8
returns-then-azimuths-ne8 c =
    let a = c.args in
    refused_at a.whose a.speakers a.channels a.azimuths.now a.elevations.now a.rows a.weights.now a.row_of.now 1 4 _
    refl (sym c.is_outside.ensures ∙ c.if-is_outside.false, ap not (ne_eqb _ 8 c.if-azimuths-ne8.true))
    refl

pub returns-then-elevations-ne8 : goal.returns-then-elevations-ne8
returns-then-elevations-ne8 c =
    let a = c.args in
    refused_at a.whose a.speakers a.channels a.azimuths.now a.elevations.now a.rows a.weights.now a.row_of.now 2 4 _
    refl (
      sym c.is_outside.ensures ∙ c.if-is_outside.false,
      (equal_passes _ 8 c.if-azimuths-ne8.false, ap not (ne_eqb _ 8 c.if-elevations-ne8.true)),
    ) refl

pub returns-then-not-is_product : goal.returns-then-not-is_product
returns-then-not-is_product c =
    let a = c.args in
    refused_at a.whose a.speakers a.channels a.azimuths.now a.elevations.now a.rows a.weights.now a.row_of.now 3 4 _
    refl (
      sym c.is_outside.ensures ∙ c.if-is_outside.false,
      (
        equal_passes _ 8 c.if-azimuths-ne8.false,
        (
          equal_passes _ 8 c.if-elevations-ne8.false,
          ap not (sym c.is_product.ensures) ∙ ap not c.if-not-is_product.true,
        ),
      ),
    ) refl

pub returns : goal.returns
returns c =
    let a = c.args in
    arranged a.whose a.speakers a.channels a.azimuths.now a.elevations.now a.rows a.weights.now a.row_of.now _ _ (
      sym c.is_outside.ensures ∙ c.if-is_outside.false,
      (
        equal_passes _ 8 c.if-azimuths-ne8.false,
        (
          equal_passes _ 8 c.if-elevations-ne8.false,
          (ap not (sym c.is_product.ensures) ∙ ap not c.if-not-is_product.false, tt),
        ),
      ),
    ) c.put_weights.ensures c.choose_rows.ensures
