-- `bank_check::check_row` meets its contract. Assumes nothing.
use Rattle.std.specs.Prelude.{◌≡◌, ◌+◌, ◌*◌, ◌<◌, ◌^◌}
use Rattle.lists.specs.Prelude.{sym, ap, ◌∙◌, List, ℕ, arith, ℤ}
use mir.Syntax.{w16}
use lib.Signed.{mag}
use mir.Val.{hbits, to_z, of_z}
use Rattle.big_endian.proofs.Signed.{back}
use Rattle.big_endian.specs.Fields.{signed_at}
use Rattle.bank_form.specs.Bank.{Pair, is_azimuth}
use Rattle.bank_form.specs.Version.{taps_at, pair_at, elevation_at}
use Rattle.bank_form.specs.Fault.{pair_in, wrong, unless, or_else, field, found, taps_fault, is_new, row_fault}
use Rattle.bank_form.proofs.Walk.{unless_passes, unless_fails, row_is}
use Rattle.bank_form.proofs.Found.{handed_on, found_stop, found_on}
use Rattle.bank_check.proofs.check_row.Goals.{After-check_field, After-is_new}
use Rattle.bank_check.proofs.check_row.Goals as goal

-- what the azimuth's field comes to
module _ (c : After-check_field) where
  range : found c.check_field.result ≡ field c.args.size c.args.at 2 17 (is_azimuth (signed_at c.args.s.now c.args.at))
  unfolding is_azimuth
  range =
      let read = c.get_i16-azimuth in
      c.check_field.ensures ∙ ap (field _ _ _ _)
      (c.is_between.ensures ∙ ap is_azimuth (back w16 read.result read.type_inv ∙ read.ensures))

-- the rows before are asked whether they have this azimuth and this elevation
pair_is : (s : List ℕ) (version at : ℕ) (z e : ℤ) → mag z < 2 ^ hbits w16 → mag e < 2 ^ hbits w16 → z ≡ signed_at s at
    → e ≡ elevation_at version s at
    → ◌≡◌ {A = Pair} (record { azimuth = to_z w16 (of_z w16 z); elevation = to_z w16 (of_z w16 e) })
    (pair_in version s at)
pair_is s version at z e f g p q =
    let azimuth = back w16 z f ∙ p in
    let elevation = back w16 e g ∙ q in
    λ k. record { azimuth = azimuth k; elevation = elevation k }

pub returns-in_err-check_field : goal.returns-in_err-check_field
returns-in_err-check_field c =
    let azimuth = range (goal.at.returns-in_err-check_field c).After-check_field in
    handed_on _ _ c.from_residual.ensures.1
    ∙ found_stop _ _ _ (ap found (sym c.in_err-check_field.was) ∙ azimuth) ∙ sym (row_is _ _ _ _ _ _)

pub returns-in_err-check_elevation : goal.returns-in_err-check_elevation
returns-in_err-check_elevation c =
    let azimuth = range (goal.at.returns-in_err-check_elevation c).After-check_field in
    handed_on _ _ c.from_residual-in_err-check_elevation.ensures.1
    ∙ found_stop _ _ _ c.in_err-check_elevation.ensures
    ∙ sym (row_is _ _ _ _ _ _ ∙ found_on _ _ (ap found (sym c.in_ok-check_field.was) ∙ azimuth))

-- past the elevation
module _ (c : After-is_new) where
  behind : found c.check_field.result ≡ field c.args.size c.args.at 2 17 (is_azimuth (signed_at c.args.s.now c.args.at))
      → row_fault c.args.size c.args.s.now c.args.version c.args.l c.args.i c.args.at
      ≡ or_else (unless (is_new c.args.s.now c.args.version c.args.l (pair_in c.args.version c.args.s.now c.args.at) 9
      c.args.i) 17 (pair_at c.args.version c.args.at))
      (taps_fault c.args.size c.args.s.now (taps_at c.args.version c.args.at) (2 * c.args.l))
  behind azimuth =
      row_is _ _ _ _ _ _ ∙ found_on _ _ (ap found (sym c.in_ok-check_field.was) ∙ azimuth)
      ∙ found_on _ _ c.in_ok-check_elevation.ensures

  same : c.is_new.result ≡ is_new c.args.s.now c.args.version c.args.l (pair_in c.args.version c.args.s.now c.args.at)
      9 c.args.i
  same =
      let read = c.get_i16-azimuth in
      let up = c.elevation_at-elevation in
      c.is_new.ensures ∙ ap (λ (p : Pair). is_new c.args.s.now c.args.version c.args.l p 9 c.args.i)
      (pair_is c.args.s.now c.args.version c.args.at read.result up.result read.type_inv up.type_inv read.ensures
      up.ensures)

pub returns-then-not-is_new : goal.returns-then-not-is_new
returns-then-not-is_new c =
    let at = (goal.at.returns-then-not-is_new c).After-is_new in
    let azimuth = range (goal.at.returns-then-not-is_new c).After-check_field in
    -- where the field of the pair stands
    let place : c.args.at + c.elevation_size.result ≡ pair_at c.args.version c.args.at =
    ap (λ (n : ℕ). c.args.at + n) c.elevation_size.ensures.0 in
    ap (wrong 17) place
    ∙ sym (behind at azimuth ∙ unless_fails _ 17 _ _ (omega arith) (sym (same at) ∙ c.if-not-is_new.true))

pub returns : goal.returns
returns c =
    let at = (goal.at.returns c).After-is_new in
    let azimuth = range (goal.at.returns c).After-check_field in
    let args = c.args in
    let place : args.at + c.elevation_size.result ≡ pair_at args.version args.at =
    ap (λ (n : ℕ). args.at + n) c.elevation_size.ensures.0 in
    let there : args.at + c.elevation_size.result + 2 ≡ taps_at args.version args.at = omega (arith, place) in
    c.check_taps.ensures
    ∙ ap (λ (p : ℕ). taps_fault args.size args.s.now p (2 * args.l)) there
    ∙ sym (behind at azimuth ∙ unless_passes _ 17 _ _ (sym (same at) ∙ c.if-not-is_new.false))
