-- Lists that begin alike have the same fields there, and a walk finds the same in both where all its fields end there.
-- Assumes nothing.
use Rattle.std.specs.Prelude.{◌≡◌, ◌+◌, ◌*◌, ◌≤◌}
use Rattle.lists.specs.Prelude.{refl, ap, List, ℕ, zero, suc, mul-le-mul_right, arith, Float, eqb}
use lib.Ieee.Scale.{finite}
use Rattle.lists.proofs.Tests.{test_cases}
use Rattle.big_endian.specs.Fields.{signed_at, float_at}
use Rattle.big_endian.specs.Lists.{strided}
use Rattle.big_endian.proofs.Starts.{SameStart, signed_agrees, float_agrees}
use Rattle.lists.proofs.Tables.{tab_ext}
use Rattle.bank_form.specs.Bank.{is_azimuth, is_elevation}
use Rattle.bank_form.specs.Version.{row_size, taps_at, elevation_at}
use Rattle.bank_form.specs.Fault.{pair_in, pairs_from, version_in, rows_in_of, length_in, field, taps_fault, is_new}
use Rattle.bank_form.specs.Fault.{elevation_fault, row_fault, rows_fault, head_field, head_fault, fault_in}
use Rattle.bank_form.specs.FaultLaws.{row_place}

-- ---- fields

module _ (k : ℕ) (s t : List ℕ) (same : SameStart k s t) where
  elevation_agrees : (v at : ℕ) → taps_at v at ≤ k → elevation_at v t at ≡ elevation_at v s at
  unfolding elevation_at
  elevation_agrees v at h = test_cases (eqb v 1) (λ e. rw e) (λ e. rw e (signed_agrees k s t same (at + 2) (rw e at h)))

  pair_agrees : (v at : ℕ) → taps_at v at ≤ k → pair_in v t at ≡ pair_in v s at
  pair_agrees v at h =
      λ i. record { azimuth = signed_agrees k s t same at (omega (arith, h)) i; elevation = elevation_agrees v at h i }

  pairs_agree : (v l at n : ℕ) → at + n * row_size v l ≤ k → pairs_from t v l at n ≡ pairs_from s v l at n
  unfolding strided
  pairs_agree v l at n h =
      tab_ext 0 n (λ j. pair_in v t (at + j * row_size v l)) (λ j. pair_in v s (at + j * row_size v l))
      (λ j g. pair_agrees v (at + j * row_size v l) (omega (arith, mul-le-mul_right (row_size v l) g)))

  -- whether the pair at an offset is new, with i rows before it
  pub new_agrees : (v l at i : ℕ) → taps_at v at ≤ k → 9 + i * row_size v l ≤ k
      → is_new t v l (pair_in v t at) 9 i ≡ is_new s v l (pair_in v s at) 9 i
  unfolding is_new
  new_agrees v l at i h g = rw (pairs_agree v l 9 i g, pair_agrees v at h)

  pub azimuth_agrees : (at : ℕ) → at + 2 ≤ k → is_azimuth (signed_at t at) ≡ is_azimuth (signed_at s at)
  azimuth_agrees at h = ap is_azimuth (signed_agrees k s t same at h)

  pub field_elevation_agrees : (at : ℕ) → at + 2 ≤ k → is_elevation (signed_at t at) ≡ is_elevation (signed_at s at)
  field_elevation_agrees at h = ap is_elevation (signed_agrees k s t same at h)

  -- ---- walks

  module _ (size : ℕ) where
    tap_agrees : (at : ℕ) → at + 4 ≤ k
        → field size at 4 18 (finite (float_at t at)) ≡ field size at 4 18 (finite (float_at s at))
    tap_agrees at h = ap (λ (x : Float). field size at 4 18 (finite x)) (float_agrees k s t same at h)

    taps_agree : (at n : ℕ) → at + 4 * n ≤ k → taps_fault size t at n ≡ taps_fault size s at n
    unfolding taps_fault
    taps_agree at zero h = refl
    taps_agree at (suc n) h = rw (tap_agrees at (omega arith), taps_agree (at + 4) n (omega arith))

    pub elevation_fault_agrees : (v at : ℕ) → taps_at v at ≤ k
        → elevation_fault size t v at ≡ elevation_fault size s v at
    unfolding elevation_fault
    elevation_fault_agrees v at h = test_cases (eqb v 1) (λ e. rw e)
        (λ e. rw e (ap (field size (at + 2) 2 20) (field_elevation_agrees (at + 2) (rw e at h))))

    pub row_agrees : (v l i at : ℕ) → 9 + i * row_size v l ≤ k → at + row_size v l ≤ k
        → row_fault size t v l i at ≡ row_fault size s v l i at
    unfolding row_fault
    row_agrees v l i at g h =
        rw (
          azimuth_agrees at (omega arith),
          elevation_fault_agrees v at (omega arith),
          new_agrees v l at i (omega arith) g,
          taps_agree (taps_at v at) (2 * l) (omega arith),
        )

    -- n rows from `at` on, with i rows before them
    rows_agree : (v l i at n : ℕ) → 9 + i * row_size v l ≤ at → at + n * row_size v l ≤ k
        → rows_fault size t v l i at n ≡ rows_fault size s v l i at n
    unfolding rows_fault
    rows_agree v l i at zero g h = refl
    rows_agree v l i at (suc n) g h =
        rw (
          row_agrees v l i at (omega arith) (omega arith),
          rows_agree v l (i + 1) (at + row_size v l) n (omega arith) (omega arith),
        )

    head_field_agrees : (at count n low high : ℕ) → at + count ≤ k
        → head_field size t at count n low high ≡ head_field size s at count n low high
    unfolding head_field
    head_field_agrees at count n low high h = rw (same at count h)

    pub head_agrees : 9 ≤ k → head_fault size t ≡ head_fault size s
    unfolding head_fault
    head_agrees h =
        rw (
          head_field_agrees 0 1 13 _ _ (omega arith),
          head_field_agrees 1 4 14 _ _ (omega arith),
          head_field_agrees 5 2 15 _ _ (omega arith),
          head_field_agrees 7 2 16 _ _ (omega arith),
        )

    -- where all the rows end within the first k bytes
    pub fault_agrees : row_place s (rows_in_of s) ≤ k → fault_in size t ≡ fault_in size s
    unfolding fault_in
    fault_agrees h =
        rw (
          head_agrees (omega arith),
          same 0 1 (omega arith),
          same 5 2 (omega arith),
          same 7 2 (omega arith),
          rows_agree (version_in s) (length_in s) 0 9 (rows_in_of s) (omega arith) h,
        )
