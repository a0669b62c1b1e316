-- A fault is told at the first byte of a field that its number tells (`field_places`). Assumes nothing.
use Rattle.std.specs.Prelude.{◌≡◌, ◌⊎◌, ◌+◌, ◌*◌, ◌≤◌, ◌<◌}
use Rattle.lists.specs.Prelude.{refl, ap, ◌∙◌, false, cond, List, inl, inr, ℕ, arith, eqb-false, eqb, length}
use lib.Ieee.Scale.{finite}
use Rattle.big_endian.specs.Fields.{float_at}
use Rattle.bank_form.specs.Version.{taps_at}
use Rattle.bank_form.specs.Fault.{version_in, rows_in_of, length_in, wrong}
use Rattle.bank_form.specs.FaultLaws.{row_place, AzimuthOut, Repeated, ElevationOut, FieldPlace, FieldPlaces}
use Rattle.bank_form.proofs.Each.{EachFault, fault_each}

-- where the fields of the head stand
abbrev head_place : ℕ → ℕ
head_place n = cond (eqb n 13) 0 (cond (eqb n 14) 1 (cond (eqb n 15) 5 7))

module _ (size : ℕ) (s : List ℕ) where
  -- ---- a number and its place

  head_place_lem : (n at : ℕ) → n < 17 → (13 ≤ n → at ≡ head_place n) → FieldPlace s (wrong n at)
  head_place_lem n at low h = record {
    version = λ e. h (omega (arith, e)) ∙ ap head_place e;
    length = λ e. h (omega (arith, e)) ∙ ap head_place e;
    row_count = λ e. h (omega (arith, e)) ∙ ap head_place e;
    tap_count = λ e. h (omega (arith, e)) ∙ ap head_place e;
    azimuth = λ e. absurd (omega (arith, e, low));
    tap = λ e. absurd (omega (arith, e, low));
    elevation = λ e. absurd (omega (arith, e, low));
  }

  row_place_lem : (n at : ℕ) → 17 ≤ n → (n ≡ 17 → (i : ℕ) × (i < rows_in_of s) × (AzimuthOut s i at ⊎ Repeated s i at))
      → (n ≡ 18 → (i k : ℕ) × (i < rows_in_of s) × (k < 2 * length_in s)
      × (at ≡ taps_at (version_in s) (row_place s i) + 4 * k) × (finite (float_at s at) ≡ false))
      → (n ≡ 20 → (i : ℕ) × (i < rows_in_of s) × ElevationOut s i at) → FieldPlace s (wrong n at)
  row_place_lem n at high azimuth tap elevation = record {
    version = λ e. absurd (omega (arith, e, high));
    length = λ e. absurd (omega (arith, e, high));
    row_count = λ e. absurd (omega (arith, e, high));
    tap_count = λ e. absurd (omega (arith, e, high));
    azimuth = azimuth;
    tap = tap;
    elevation = elevation;
  }

  -- another number
  no : {A : Type 0} {m : ℕ} (n : ℕ) → eqb n m ≡ false → n ≡ m → A
  no n h e = absurd (eqb-false n _ h e)

  azimuth_place : (i at : ℕ) → i < rows_in_of s → AzimuthOut s i at ⊎ Repeated s i at → FieldPlace s (wrong 17 at)
  azimuth_place i at h bad = row_place_lem 17 at (omega arith) (λ e. (i, h, bad)) (no 17 refl) (no 17 refl)

  place_each : EachFault size s (FieldPlace s)
  place_each = record {
    none = head_place_lem 0 0 (omega arith) (λ h. absurd (omega (arith, h)));
    cut = row_place_lem 19 size (omega arith) (no 19 refl) (no 19 refl) (no 19 refl);
    version = λ room. head_place_lem 13 0 (omega arith) (λ h. refl);
    length = λ room bad. head_place_lem 14 1 (omega arith) (λ h. refl);
    row_count = λ room. head_place_lem 15 5 (omega arith) (λ h. refl);
    tap_count = λ room. head_place_lem 16 7 (omega arith) (λ h. refl);
    azimuth = λ i at h room bad. azimuth_place i at h (inl bad);
    elevation = λ i at h room bad. row_place_lem 20 at (omega arith) (no 20 refl) (no 20 refl) (λ e. (i, h, bad));
    pair = λ i at h room bad. azimuth_place i at h (inr bad);
    tap = λ i k at h g room place bad.
        row_place_lem 18 at (omega arith) (no 18 refl) (λ e. (i, k, h, g, place, bad)) (no 18 refl);
    left = λ five h. head_place_lem 14 1 (omega arith) (λ h. refl);
  }

pub field_places : FieldPlaces
field_places s = fault_each (length s) s (FieldPlace s) (place_each (length s) s)
