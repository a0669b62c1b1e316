-- `bank::rows::put_elevation` meets its contract. Assumes nothing.
use Rattle.std.specs.Prelude.{◌≡◌, ◌+◌, ◌≤◌}
use Rattle.lists.specs.Prelude.{sym, ap, ◌∙◌, arith, eq-eqb, ne_eqb, length}
use mir.Syntax.{w16}
use mir.Val.{to_z, of_z}
use mir.Facts.{to_z-of_z}
use Rattle.big_endian.specs.Bytes.{bytes_of}
use Rattle.big_endian.specs.Fields.{with_signed}
use Rattle.big_endian.proofs.Fields.{field_put}
use Rattle.lists.specs.Placed.{placed}
use Rattle.lists.proofs.Placed.{placed_none}
use Rattle.bank_form.specs.Version.{elevation_bytes}
use Rattle.bank.proofs.rows.put_elevation.Goals as goal

pub returns-then-version-eq1 : goal.returns-then-version-eq1
unfolding elevation_bytes
returns-then-version-eq1 c = sym (rw (eq-eqb _ _ c.if-version-eq1.true) (placed_none _ _))

pub returns : goal.returns
unfolding elevation_bytes with_signed
returns c =
    let args = c.args in
    let put = c.put_i16 in
    let bits : of_z w16 (to_z w16 (of_z w16 args.z)) ≡ of_z w16 args.z = ap (of_z w16) (to_z-of_z c.ranges.z) in
    let other = ne_eqb _ _ c.if-version-eq1.false in
    let room : args.at + 2 ≤ length args.file.now = rw other at c.requires in
    let done = field_put args.file.now put.new.out args.at 2 _ (omega arith) room put.ensures
    ∙ ap (placed _ _) (ap (bytes_of 2) bits) in
    rw other done
