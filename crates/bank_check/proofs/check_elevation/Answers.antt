-- `bank_check::check_elevation` meets its contract. Assumes nothing.
use Rattle.lists.specs.Prelude.{sym, ap, ◌∙◌, eq-eqb, ne_eqb}
use mir.Syntax.{w16}
use Rattle.big_endian.proofs.Signed.{back}
use Rattle.bank_form.specs.Bank.{is_elevation}
use Rattle.bank_form.specs.Fault.{field}
use Rattle.bank_form.proofs.Walk.{no_elevation, elevation_field}
use Rattle.bank_check.proofs.check_elevation.Goals as goal

pub returns-then-version-eq1 : goal.returns-then-version-eq1
returns-then-version-eq1 c = sym (no_elevation _ _ _ _ (eq-eqb _ _ c.if-version-eq1.true))

pub returns : goal.returns
unfolding is_elevation
returns c =
    let at_get_i16 = c.before.before in
    let at_if1 = at_get_i16.before in
    let read = at_get_i16.get_i16 in
    let good = c.before.is_between-good.ensures ∙ ap is_elevation (back w16 read.result read.type_inv ∙ read.ensures) in
    c.check_field.ensures ∙ ap (field _ _ _ _) good
    ∙ sym (elevation_field _ _ _ _ (ne_eqb _ _ at_if1.if-version-eq1.false))
