-- What is told of a file that is to be turned into another version (`conversion_fault`), and of a bank with elevations
-- (`raised_exactly`, `raised_place`). Assumes nothing.
use Rattle.std.specs.Prelude.{◌≡◌, ◌&&◌, ◌∷◌, ◌⊎◌, ◌+◌, ◌≤◌, ◌<◌}
use Rattle.lists.specs.Prelude.{refl, sym, ap, ap₂, ◌∙◌, true, false, List, [], inl, inr, ⊎_elim, ℕ, zero, suc}
use Rattle.lists.specs.Prelude.{suc-le-suc, le_of_suc-le-suc, arith, dec_lt, ℤ, pos, length, drop, get_or}
use Rattle.lists.specs.Prelude.{drop_of_length-le}
use Rattle.big_endian.proofs.Fields.{lies_out, field_out}
use Rattle.lists.specs.Tables.{every}
use Rattle.lists.proofs.Tests.{test_cases}
use Rattle.refusals.specs.Ranges.{within}
use Rattle.refusals.proofs.Ranges.{within_true, within_in, within_low, within_high}
use Rattle.bank_form.specs.Bank.{is_level}
use Rattle.bank_form.specs.Version.{is_version, row_size, pair_at}
use Rattle.bank_form.specs.Fault.{version_in, sound, wrong, or_else, unless, field, head_field, fault, fault_of}
use Rattle.bank_form.specs.Fault.{raised_from}
use Rattle.bank_form.specs.FaultLaws.{ConversionFault, RaisedExactly, FirstRaised, RaisedPlace}
use Rattle.bank_form.proofs.Walk.{is_clear, clear_else, clear_unless, else_on, else_stop, field_bad, field_good}
use Rattle.bank_form.proofs.Walk.{unless_passes, unless_fails}

-- ---- the version

module _ (v : ℕ) (s : List ℕ) where
  same_version : version_in s ≡ v → within v v (version_in s) ≡ true
  same_version e = rw e (within_in v v v (omega arith) (omega arith))

  other_version : (version_in s ≡ v → ⊥) → within v v (version_in s) ≡ false
  other_version other =
      elim (dec_lt (version_in s) v) [
        | yes h ↦ within_low v v (version_in s) h
        | no h ↦ elim (dec_lt v (version_in s))
            [ yes g ↦ within_high v v (version_in s) (omega arith) g | no g ↦ absurd (other (omega arith)) ]
      ]

  tells_other : 1 ≤ length s → (version_in s ≡ v → ⊥) → fault_of v s ≡ wrong 13 0
  unfolding fault_of head_field
  tells_other h other = sym (else_stop _ (fault s) (wrong 13 0)
      (sym (field_bad (length s) 0 1 13 (within v v (version_in s)) h (other_version other))) (λ z. omega (arith, z)))

  -- a file that has a version has a byte
  has_version : 1 ≤ v → version_in s ≡ v → 1 ≤ length s
  has_version h e =
      elim (dec_lt (length s) 1) [
        | yes none ↦ absurd (omega (arith, h, sym (field_out s 0 1 (lies_out (length s) 0 1 (omega arith) none)) ∙ e))
        | no some ↦ omega arith
      ]

  tells_right : is_version v ≡ true → version_in s ≡ v → fault_of v s ≡ fault s
  unfolding fault_of head_field
  tells_right known e = else_on _ (fault s) sound
      (sym (field_good (length s) 0 1 13 (within v v (version_in s)) (has_version (within_true 1 2 v known).0 e)
      (same_version e))) refl

tells_empty : (v : ℕ) → fault_of v [] ≡ wrong 19 0
unfolding fault_of head_field field or_else
tells_empty v = refl

pub conversion_fault : ConversionFault
conversion_fault = record { right = tells_right; other = tells_other; empty = tells_empty }

-- ---- elevations

clear_raised : (l at : ℕ) (es : List ℤ) → is_clear (raised_from l at es) ≡ every is_level es
unfolding raised_from
clear_raised l at [] = refl
clear_raised l at (e ∷ es) = clear_else _ _ ∙ ap₂ ◌&&◌ (clear_unless (is_level e) 21 (pair_at 2 at) (omega arith))
    (clear_raised l (at + row_size 2 l) es)

-- from the i-th on: it, and those behind it
pub raised_next : (l at i : ℕ) (es : List ℤ) → i < length es
    → raised_from l at (drop i es) ≡ or_else (unless (is_level (get_or es i (pos 0))) 21 (pair_at 2 at))
    (raised_from l (at + row_size 2 l) (drop (i + 1) es))
unfolding raised_from
raised_next l at i [] h = absurd (omega (arith, h))
raised_next l at zero (e ∷ es) h = refl
raised_next l at (suc i) (e ∷ es) h =
    let next : suc i + 1 ≡ suc (i + 1) = omega arith in
    rw next (raised_next l at i es (le_of_suc-le-suc h))

pub raised_end : (l at i : ℕ) (es : List ℤ) → length es ≤ i → raised_from l at (drop i es) ≡ sound
unfolding raised_from
raised_end l at i es h = ap (raised_from l at) (drop_of_length-le es {i = i} h)

pub raised_exactly : RaisedExactly
raised_exactly b = clear_raised b.length 9 b.elevations

first_raised : (l at : ℕ) (es : List ℤ) → (raised_from l at es ≡ sound) ⊎ ((i : ℕ) × FirstRaised l at es i)
unfolding raised_from
first_raised l at [] = inl refl
first_raised l at (e ∷ es) = test_cases (is_level e)
    (λ k. ⊎_elim (λ none. inl (unless_passes (is_level e) 21 (pair_at 2 at) _ k ∙ none)) (λ some. inr (on k some))
    (first_raised l (at + row_size 2 l) es))
    (λ k. inr (0, stop k))
  where
    stop : is_level e ≡ false → FirstRaised l at (e ∷ es) 0
    stop k = record {
      among = omega arith;
      told = unless_fails (is_level e) 21 (pair_at 2 at) _ (omega arith) k
          ∙ ap (λ (n : ℕ). wrong 21 (pair_at 2 n)) (omega arith);
      before = refl;
      itself = k;
    }

    on : is_level e ≡ true → (i : ℕ) × FirstRaised l (at + row_size 2 l) es i → (i : ℕ) × FirstRaised l at (e ∷ es) i
    on k (i, f) = (
      suc i,
      record {
        among = suc-le-suc f.among;
        told = unless_passes (is_level e) 21 (pair_at 2 at) _ k ∙ f.told
            ∙ ap (λ (n : ℕ). wrong 21 (pair_at 2 n)) (omega arith);
        before = rw k f.before;
        itself = f.itself;
      },
    )

pub raised_place : RaisedPlace
raised_place b = first_raised b.length 9 b.elevations
