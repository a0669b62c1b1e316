-- `bank_form::elevation_at` meets its contract: an offset beyond the list reads as 0. Assumes nothing.
use Rattle.std.specs.Prelude.{◌+◌}
use Rattle.lists.specs.Prelude.{sym, ap, ◌∙◌, arith, eq-eqb, ne_eqb}
use mir.Syntax.{w16}
use mir.Val.{to_z}
use Rattle.big_endian.specs.Fields.{signed_at}
use Rattle.big_endian.proofs.Signed.{back}
use Rattle.big_endian.proofs.Fields.{lies_out, field_out}
use Rattle.bank_form.specs.Version.{elevation_at}
use Rattle.bank_form.proofs.elevation_at.Goals as goal

pub returns-then-version-eq1 : goal.returns-then-version-eq1
unfolding elevation_at
returns-then-version-eq1 c = sym (rw (eq-eqb _ _ c.if-version-eq1.true))

pub returns-then-s-at : goal.returns-then-s-at
unfolding elevation_at signed_at
returns-then-s-at c =
    let start = c.before.before.before in
    let args = start.args in
    sym (rw (ne_eqb _ _ c.before.if-version-eq1.false)
    (ap (to_z w16) (field_out args.s.now (args.at + 2) 2
    (lies_out _ (args.at + 2) 2 (omega arith) (omega (arith, c.if-s-at.true))))))

pub returns : goal.returns
unfolding elevation_at
returns c =
    let read = back w16 c.get_i16.result c.get_i16.type_inv ∙ c.get_i16.ensures in
    sym (rw (ne_eqb _ _ c.before.before.if-version-eq1.false) (sym read))
