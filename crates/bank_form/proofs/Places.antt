-- Each fault has a number from 13 to 20 and a place in the file, 19 its end (`numbers_and_places`), and 14 is told of a
-- length that is right only where bytes are left after the last row (`bytes_left`). Assumes nothing.
use Rattle.std.specs.Prelude.{◌≡◌, ◌⊎◌, ◌+◌, ◌-◌, ◌≤◌, ◌<◌}
use Rattle.lists.specs.Prelude.{refl, sym, ◌∙◌, true, false, true≢false, List, inl, inr, ℕ, arith, eq-eqb, eqb, length}
use Rattle.big_endian.specs.Fields.{field_at}
use Rattle.refusals.specs.Ranges.{within}
use Rattle.refusals.proofs.Ranges.{within_in}
use Rattle.bank_form.specs.Fault.{Fault}
use Rattle.bank_form.specs.Fault.{rows_in_of, sound, wrong, fault}
use Rattle.bank_form.specs.FaultLaws.{field_size, NumberAndPlace, NumbersAndPlaces, row_place}
use Rattle.bank_form.proofs.Each.{EachFault, fault_each}

-- no fault, or one with a number and a place
abbrev Fine : ℕ → Fault → Type 0
Fine size f = (f ≡ sound) ⊎ NumberAndPlace size f

module _ (size : ℕ) (s : List ℕ) where
  -- a fault by its number and its place
  wrong_at : (n at : ℕ) → (13 ≤ n) × (n ≤ 20) → eqb n 19 ≡ false → at + field_size n ≤ size → Fine size (wrong n at)
  wrong_at n at known other h = inr (record {
    least = known.0;
    most = known.1;
    inside = h;
    end = λ e. absurd (true≢false (sym (eq-eqb n 19 e) ∙ other));
  })

  fine_each : EachFault size s (Fine size)
  fine_each = record {
    none = inl refl;
    cut = inr (record { least = omega arith; most = omega arith; inside = omega arith; end = λ e. refl });
    version = wrong_at 13 0 (omega arith) refl;
    length = λ h bad. wrong_at 14 1 (omega arith) refl h;
    row_count = wrong_at 15 5 (omega arith) refl;
    tap_count = wrong_at 16 7 (omega arith) refl;
    azimuth = λ i at h room bad. wrong_at 17 at (omega arith) refl room;
    elevation = λ i at h room bad. wrong_at 20 at (omega arith) refl room;
    pair = λ i at h room bad. wrong_at 17 at (omega arith) refl room;
    tap = λ i k at h g room place bad. wrong_at 18 at (omega arith) refl room;
    left = λ five h. wrong_at 14 1 (omega arith) refl five;
  }

  -- where 14 is told of a length that is right
  abbrev Left : Fault → Type 0
  Left f = f.refusal ≡ 14 → field_at s 1 4 ≡ size - 5 → row_place s (rows_in_of s) < size

  other : (n : ℕ) → eqb n 14 ≡ false → n ≡ 14 → field_at s 1 4 ≡ size - 5 → row_place s (rows_in_of s) < size
  other n h e right = absurd (true≢false (sym (eq-eqb n 14 e) ∙ h))

  right_length : field_at s 1 4 ≡ size - 5 → within (size - 5) (size - 5) (field_at s 1 4) ≡ true
  right_length right = rw right (within_in (size - 5) (size - 5) (size - 5) (omega arith) (omega arith))

  left_each : EachFault size s Left
  left_each = record {
    none = other 0 refl;
    cut = other 19 refl;
    version = λ h. other 13 refl;
    length = λ h bad e right. absurd (true≢false (sym (right_length right) ∙ bad));
    row_count = λ h. other 15 refl;
    tap_count = λ h. other 16 refl;
    azimuth = λ i at h room bad. other 17 refl;
    elevation = λ i at h room bad. other 20 refl;
    pair = λ i at h room bad. other 17 refl;
    tap = λ i k at h g room place bad. other 18 refl;
    left = λ five h e right. h;
  }

pub numbers_and_places : NumbersAndPlaces
numbers_and_places s = fault_each (length s) s (Fine (length s)) (fine_each (length s) s)

pub bytes_left : (s : List ℕ) → (fault s).refusal ≡ 14 → field_at s 1 4 ≡ length s - 5
    → row_place s (rows_in_of s) < length s
bytes_left s = fault_each (length s) s (Left (length s) s) (left_each (length s) s)
