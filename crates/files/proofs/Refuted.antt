-- What the promise of `read_bank` rules out, whatever stands in the file: a refusal by another number than 5 and 13 to
-- 20, and lists that are filled though the bank is refused. Assumes nothing.
use Rattle.std.specs.Prelude.{◌≡◌, ◌≤◌}
use Rattle.lists.specs.Prelude.{refl, sym, ap, ◌∙◌, List, ⊎_elim, arith, ℤ, length, Float}
use Rattle.bank_form.specs.Fault.{bank_in, fault}
use Rattle.bank_form.specs.FaultLaws.{NumberAndPlace}
use Rattle.bank_form.proofs.Walk.{same_number, fault_refused}
use Rattle.bank_form.proofs.Places.{numbers_and_places}
use Rattle.bank.specs.Reading.{ReadOutcome, read_refused, read_refusal, read_outcome}
use Rattle.bank.proofs.Meets.{as_told, wrong_or_bank}
use Rattle.files.specs.Promise.{Found}

module _ (zs es : List ℤ) (xs : List Float) (o : ReadOutcome) (f : Found zs es xs o) where
  refusal_is : o.answer.refusal ≡ (read_refusal f.file zs es xs).refusal
  unfolding read_outcome
  refusal_is = ap (λ (r : ReadOutcome). r.answer.refusal) f.reads.bits
      ∙ as_told zs es xs (read_refusal f.file zs es xs) (bank_in f.file)

  -- a number that is neither that of a length nor one of a bank's: 9, for instance
  refused_otherwise : (o.answer.refusal ≡ 0 → ⊥) → (o.answer.refusal ≡ 5 → ⊥)
      → (13 ≤ o.answer.refusal → o.answer.refusal ≤ 20 → ⊥) → ⊥
  unfolding read_refusal
  refused_otherwise none five banks = ⊎_elim (λ e. five (refusal_is ∙ same_number e))
      (λ e. bank (refusal_is ∙ same_number e)) (wrong_or_bank zs es xs (fault f.file))
    where
      bank : o.answer.refusal ≡ (fault f.file).refusal → ⊥
      bank e =
          ⊎_elim (λ s. none (e ∙ same_number s))
          (λ (p : NumberAndPlace (length f.file) (fault f.file)). banks (omega (arith, e, p.least))
          (omega (arith, e, p.most)))
          (numbers_and_places f.file)

  -- lists filled before the refusal is known
  filled_though_refused : (o.answer.refusal ≡ 0 → ⊥)
      → ((o.azimuths ≡ zs) × (o.elevations ≡ es) × (o.taps ≡ xs) → ⊥) → ⊥
  unfolding read_outcome
  filled_though_refused some other =
      let kept = f.reads.bits
      ∙ sym (fault_refused _ (λ g. read_refused g zs es xs) (read_refusal f.file zs es xs) _ refl
      (λ z. some (refusal_is ∙ z))) in
      other (
        ap (λ (r : ReadOutcome). r.azimuths) kept,
        ap (λ (r : ReadOutcome). r.elevations) kept,
        ap (λ (r : ReadOutcome). r.taps) kept,
      )
