-- A walk over a file finds nothing, or a cut file, or a field that is wrong where it stands, or bytes behind the last
-- row: what holds of each of these faults holds of the one that is told (`fault_each`). Assumes nothing.
use Rattle.std.specs.Prelude.{◌≡◌, ◌+◌, ◌-◌, ◌*◌, ◌≤◌, ◌<◌}
use Rattle.lists.specs.Prelude.{refl, sym, ◌∙◌, Bool, false, true≢false, List, ℕ, zero, suc, lt_of_le_of_ne, arith}
use Rattle.lists.specs.Prelude.{eq-eqb, eqb-false, eqb}
use lib.Ieee.Scale.{finite}
use Rattle.lists.proofs.Tests.{test_cases}
use Rattle.big_endian.specs.Fields.{field_at, float_at}
use Rattle.refusals.specs.Ranges.{within}
use Rattle.bank_form.specs.Fault.{Fault}
use Rattle.bank_form.specs.Version.{row_size, taps_at, pair_at}
use Rattle.bank_form.specs.Fault.{version_in, rows_in_of, length_in, pair_in, is_new, elevation_fault, sound, wrong}
use Rattle.bank_form.specs.Fault.{or_else, field, taps_fault, row_fault, rows_fault, head_field, head_fault}
use Rattle.bank_form.specs.Fault.{fault_in}
use Rattle.bank_form.specs.FaultLaws.{row_place, AzimuthOut, Repeated, ElevationOut}
use Rattle.bank_form.proofs.Walk.{else_each, else_none, unless_each, field_each, field_none, no_elevation}
use Rattle.bank_form.proofs.Walk.{same_number, elevation_field, elevation_none, row_is, head_none}

-- the faults that a file of `size` bytes can have, which begins with these
pub record EachFault (size : ℕ) (s : List ℕ) (P : Fault → Type 0) : Type 0 where
  pub none : P sound
  pub cut : P (wrong 19 size)
  pub version : 1 ≤ size → P (wrong 13 0)
  pub length : 5 ≤ size → within (size - 5) (size - 5) (field_at s 1 4) ≡ false → P (wrong 14 1)
  pub row_count : 7 ≤ size → P (wrong 15 5)
  pub tap_count : 9 ≤ size → P (wrong 16 7)
  pub azimuth : (i at : ℕ) → i < rows_in_of s → at + 2 ≤ size → AzimuthOut s i at → P (wrong 17 at)
  pub elevation : (i at : ℕ) → i < rows_in_of s → at + 2 ≤ size → ElevationOut s i at → P (wrong 20 at)
  pub pair : (i at : ℕ) → i < rows_in_of s → at + 2 ≤ size → Repeated s i at → P (wrong 17 at)
  pub tap : (i k at : ℕ) → i < rows_in_of s → k < 2 * length_in s → at + 4 ≤ size
      → at ≡ taps_at (version_in s) (row_place s i) + 4 * k → finite (float_at s at) ≡ false → P (wrong 18 at)
  pub left : 5 ≤ size → row_place s (rows_in_of s) < size → P (wrong 14 1)

-- ---- where a walk that finds nothing ends

module _ (size : ℕ) (s : List ℕ) where
  taps_ended : (at n : ℕ) → at ≤ size → (taps_fault size s at n).refusal ≡ 0 → at + 4 * n ≤ size
  unfolding taps_fault
  taps_ended at zero h e = omega arith
  taps_ended at (suc n) h e =
      let both = else_none (field size at 4 18 (finite (float_at s at))) (taps_fault size s (at + 4) n) e in
      let here = (field_none size at 4 18 (finite (float_at s at)) (omega arith) both.0).0 in
      omega (arith, taps_ended (at + 4) n here both.1)

  pub row_ended : (v l i at : ℕ) → (row_fault size s v l i at).refusal ≡ 0 → at + row_size v l ≤ size
  row_ended v l i at e =
      let first = else_none _ _ (same_number (sym (row_is size s v l i at)) ∙ e) in
      let second = else_none _ _ first.1 in
      let third = else_none _ _ second.1 in
      let behind = (elevation_none size s v at (field_none size at 2 17 _ (omega arith) first.0).0
      second.0).0 in
      omega (arith, taps_ended (taps_at v at) (2 * l) behind third.1)

-- ---- the walks

module _ (size : ℕ) (s : List ℕ) (P : Fault → Type 0) (each : EachFault size s P) where
  abbrev v : ℕ
  v = version_in s

  abbrev l : ℕ
  l = length_in s

  one : (at count n : ℕ) (good : Bool) → (at + count ≤ size → good ≡ false → P (wrong n at))
      → P (field size at count n good)
  one at count n good = field_each size at count n good P each.none each.cut

  -- a field, and what is behind it
  next : (at count n : ℕ) (good : Bool) (b : Fault) → 0 < n → (at + count ≤ size → good ≡ false → P (wrong n at))
      → (at + count ≤ size → P b) → P (or_else (field size at count n good) b)
  next at count n good b some bad rest = else_each _ b P (one at count n good bad)
      (λ e. rest (field_none size at count n good some e).0)

  -- k taps of the row i were looked at
  taps_each : (i at k n : ℕ) → i < rows_in_of s → at ≡ taps_at v (row_place s i) + 4 * k → k + n ≡ 2 * l
      → P (taps_fault size s at n)
  unfolding taps_fault
  taps_each i at k zero h e f = each.none
  taps_each i at k (suc n) h e f =
      next at 4 18 _ _ (omega arith) (λ room. each.tap i k at h (omega (arith, f)) room e)
      (λ room. taps_each i (at + 4) (k + 1) n h (omega (arith, e)) (omega (arith, f)))

  module _ (i : ℕ) (h : i < rows_in_of s) where
    abbrev at : ℕ
    at = row_place s i

    elevation_each : P (elevation_fault size s v at)
    elevation_each = test_cases (eqb v 1) (λ e. rw (no_elevation size s v at e) each.none)
        (λ e. rw (elevation_field size s v at e)
        (one (at + 2) 2 20 _ (λ room bad. each.elevation i (at + 2) h room
        (record { version = λ first. true≢false (sym (eq-eqb v 1 first) ∙ e); place = refl; bad = bad }))))

    row_each : P (row_fault size s v l i at)
    unfolding row_fault
    row_each =
        next at 2 17 _ _ (omega arith)
        (λ room bad. each.azimuth i at h room (record { place = refl; bad = bad })) (λ here.
        else_each _ _ P elevation_each (λ e.
        let behind = (elevation_none size s v at here e).0 in
        else_each _ _ P (unless_each (is_new s v l (pair_in v s at) 9 i) 17 (pair_at v at) P each.none
        (λ bad. each.pair i (pair_at v at) h (omega (arith, behind)) (record { place = refl; bad = bad })))
        (λ new. taps_each i (taps_at v at) 0 (2 * l) h (omega arith) (omega arith))))

  rows_each : (i at n : ℕ) → at ≡ row_place s i → i + n ≡ rows_in_of s → 5 ≤ at → at ≤ size
      → P (rows_fault size s v l i at n)
  unfolding rows_fault
  rows_each i at zero e f five h =
      let all : rows_in_of s ≡ i = omega (arith, f) in
      unless_each (eqb size at) 14 1 P each.none
      (λ k. each.left (omega arith)
      (rw (all, ← e) (lt_of_le_of_ne h (λ same. eqb-false size at k (sym same)))))
  rows_each i at (suc n) e f five h =
      else_each _ _ P (rw e (row_each i (omega (arith, f))))
      (λ none. rows_each (i + 1) (at + row_size v l) n (omega (arith, e)) (omega (arith, f)) (omega arith)
      (row_ended size s v l i at none))

  head_each : P (head_fault size s)
  unfolding head_fault head_field
  head_each =
      next 0 1 13 _ _ (omega arith) (λ room bad. each.version room) (λ a.
      next 1 4 14 _ _ (omega arith) each.length (λ b.
      next 5 2 15 _ _ (omega arith) (λ room bad. each.row_count room) (λ c.
      one 7 2 16 _ (λ room bad. each.tap_count room))))

  pub fault_each : P (fault_in size s)
  unfolding fault_in
  fault_each = else_each _ _ P head_each
      (λ e. rows_each 0 9 (rows_in_of s) (omega arith) (omega arith) (omega arith) (head_none size s e).long)
