-- `bank::rows::put_rows` meets its contract. The rows put so far stand behind the head. Assumes nothing.
use Rattle.std.specs.Prelude.{◌≡◌, ◌+◌, ◌-◌, ◌*◌}
use Rattle.lists.specs.Prelude.{sym, ap, ◌∙◌, List, ℕ, arith, pos, ℤ, Float, rules, length, get_or, take}
use Rattle.lists.specs.Prelude.{take-length}
use borrow.Author.Count.{below_more}
use mir.Syntax.{w16}
use mir.Val.{to_z, of_z}
use Rattle.lists.specs.Placed.{placed}
use Rattle.lists.proofs.Placed.{placed_none}
use Rattle.big_endian.proofs.Signed.{back}
use Rattle.bank_form.specs.Bank.{Pair, pairs_of}
use Rattle.bank_form.specs.Encoding.{row_bytes}
use Rattle.bank_form.specs.FitsFields.{IsI16}
use Rattle.bank_form.proofs.Pairs.{length_pairs, pair_of}
use Rattle.bank_form.proofs.RoundTrip.{one_row}
use Rattle.bank.proofs.Fill.{no_rows, rows_more}
use Rattle.bank.proofs.rows.put_rows.Goals as goal

-- the pairs of the two lists, as many as there are rows
module _ (azimuths elevations : List ℤ) (paired : length elevations ≡ length azimuths) where
  abbrev pairs : List Pair
  pairs = pairs_of azimuths elevations

  count : length pairs ≡ length azimuths
  count = length_pairs azimuths elevations paired

  all_taps : (taps : List Float) (l : ℕ) → length taps ≡ length azimuths * (2 * l)
      → length taps ≡ length pairs * (2 * l)
  all_taps taps l counted = counted ∙ ap (λ (n : ℕ). n * (2 * l)) (sym count)

pub loop-i-init : goal.loop-i-init
loop-i-init c = (
  sym (ap (placed _ _) (no_rows _ _ _) ∙ placed_none _ _),
  λ j h. absurd (omega arith),
  λ j h. absurd (omega arith),
)

pub loop-i-preserved : goal.loop-i-preserved
loop-i-preserved c =
    let from = c.tap_at-from in
    let at = c.row_at-at in
    let args = c.args in
    let turn = c.loop-i in
    let i = turn.i in
    let inside = c.loop-i-test.true in
    let near : IsI16 (get_or args.azimuths.now i (pos 0)) = search rules in
    let high : IsI16 (get_or args.elevations.now i (pos 0)) = search rules in
    let azimuth = back w16 (get_or args.azimuths.now i (pos 0)) near in
    let elevation = back w16 (get_or args.elevations.now i (pos 0)) high in
    let ps = pairs_of args.azimuths.now args.elevations.now in
    let many = count args.azimuths.now args.elevations.now c.requires.2 in
    let taps = all_taps args.azimuths.now args.elevations.now c.requires.2 args.taps.now args.l c.requires.3 in
    let none : Pair = record { azimuth = pos 0; elevation = pos 0 } in
    let pair : ◌≡◌ {A = Pair}
    (record {
      azimuth = to_z w16 (of_z w16 (get_or args.azimuths.now i (pos 0)));
      elevation = to_z w16 (of_z w16 (get_or args.elevations.now i (pos 0)));
    }) (get_or ps i none) =
    (λ k. record { azimuth = azimuth k; elevation = elevation k })
    ∙ sym (pair_of args.azimuths.now args.elevations.now i none inside
    (omega (arith, inside, c.requires.2))) in
    let width : from.result + 2 * args.l - from.result ≡ 2 * args.l = omega arith in
    let row = rw width at c.put_row.ensures
    ∙ ap (λ (p : Pair). placed turn.file at.result
    (one_row args.version p args.l args.taps.now from.result)) pair in (
      rows_more args.version ps args.l args.taps.now taps args.file.now
          turn.file _ none i from.result at.result (omega (arith, inside, many)) from.ensures.0
          at.ensures.0
          (rw many c.requires.4) turn.invariant.0 row,
      below_more (λ (j : ℕ). IsI16 (get_or args.azimuths.now j (pos 0))) i turn.invariant.1 near,
      below_more (λ (j : ℕ). IsI16 (get_or args.elevations.now j (pos 0))) i turn.invariant.2 high,
    )

pub returns-clause-bytes : goal.returns-clause-bytes
returns-clause-bytes c =
    let args = c.args in
    let ps = pairs_of args.azimuths.now args.elevations.now in
    let many = count args.azimuths.now args.elevations.now c.requires.2 in
    let done : c.loop-i.i ≡ length args.azimuths.now = omega arith in
    let all : take c.loop-i.i ps ≡ ps = ap (λ (k : ℕ). take k ps) (done ∙ sym many) ∙ take-length ps in
    c.loop-i.invariant.0 ∙ ap (λ (ps : List Pair). placed args.file.now 9
    (row_bytes args.version ps args.l args.taps.now)) all
