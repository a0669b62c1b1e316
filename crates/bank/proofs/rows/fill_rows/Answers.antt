-- `bank::rows::fill_rows` meets its contract. The azimuths, the elevations and the taps of the rows read so far stand
-- at the start of their lists. Assumes nothing.
use Rattle.std.specs.Prelude.{◌≡◌, ◌+◌, ◌-◌, ◌*◌}
use Rattle.lists.specs.Prelude.{sym, ap, ◌∙◌, ℕ, arith, length, take, drop}
use mir.Syntax.{w16}
use Rattle.big_endian.specs.Fields.{signed_at}
use Rattle.lists.specs.Placed.{placed}
use Rattle.big_endian.specs.Lists.{strided, floats_at}
use Rattle.lists.proofs.Placed.{placed_none}
use Rattle.big_endian.proofs.Signed.{back}
use Rattle.bank_form.specs.Version.{elevation_size, elevation_at, row_size, taps_at}
use Rattle.bank_form.proofs.Lists.{taps_none}
use Rattle.big_endian.proofs.Lists.{length_strided}
use Rattle.lists.proofs.Tables.{length_part}
use Rattle.bank.proofs.Fill.{entry_more, row_more, part_placed}
use Rattle.bank.proofs.rows.fill_rows.Goals as goal

-- where the taps of a row stand, from its offset and the size of its pair
at_taps : (v at to size : ℕ) → at ≡ to → size ≡ elevation_size v → at + (2 + size) ≡ taps_at v to
at_taps v at to size e f = omega (arith, e, f)

pub loop-i-init : goal.loop-i-init
unfolding strided
loop-i-init c = (
  sym (placed_none _ _),
  sym (placed_none _ _),
  sym (ap (placed _ _) (taps_none _ _ _ _) ∙ placed_none _ _),
)

pub loop-i-preserved : goal.loop-i-preserved
loop-i-preserved c =
    let turn = c.loop-i in
    let args = c.args in
    let at = c.row_at-at.ensures.0 in
    let v = args.version in
    let azimuth = back w16 c.get_i16.result c.get_i16.type_inv ∙ c.get_i16.ensures
    ∙ ap (signed_at args.file.now) at in
    let elevation = back w16 c.elevation_at.result c.elevation_at.type_inv ∙ c.elevation_at.ensures
    ∙ ap (elevation_at v args.file.now) at in
    let first = c.tap_at-first in
    let place = at_taps v _ _ _ at c.elevation_size-pair.ensures.0 in
    -- the part of the taps that the row fills
    let width : first.result + 2 * args.l - first.result ≡ 2 * args.l = omega arith in
    let long : length (take (2 * args.l) (drop first.result turn.taps)) ≡ 2 * args.l =
    length_part turn.taps first.result (2 * args.l) (omega (arith, first.ensures.1)) in
    let row = rw (width, long) at c.fill_taps.ensures
    ∙ ap (λ (p : ℕ). floats_at args.file.now p (2 * args.l)) place in
    let size : length c.fill_taps.new.taps ≡ 2 * args.l = ap length row ∙ length_strided _ 4 _ _ in
    let taps = part_placed turn.taps c.fill_taps.new.taps first.result _ (size ∙ sym width)
    ∙ ap (placed turn.taps first.result) row in (
      entry_more (signed_at args.file.now) (row_size v args.l) args.azimuths.now turn.azimuths turn.i _
          turn.invariant.0 (omega arith) azimuth,
      entry_more (elevation_at v args.file.now) (row_size v args.l) args.elevations.now turn.elevations
          turn.i _ turn.invariant.1 (omega arith) elevation,
      row_more args.file.now v args.l args.taps.now turn.taps _ turn.i first.result turn.invariant.2
          first.ensures.0 (omega (arith, first.ensures.1)) taps,
    )
