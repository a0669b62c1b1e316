-- What a conversion answers at each of its tests, and what its answer says of the file (`converts_2`, `converts_1`).
-- Assumes nothing.
use Rattle.std.specs.Prelude.{◌≡◌}
use Rattle.lists.specs.Prelude.{refl, sym, ap, subst, ◌∙◌, true, false, true≢false, List, ⊎_elim, ℕ, arith, eq-eqb}
use Rattle.lists.specs.Prelude.{ne_eqb, eqb-true, eqb, length}
use Rattle.refusals.specs.Ranges.{within}
use Rattle.refusals.proofs.Ranges.{within_true}
use Rattle.big_endian.specs.Bytes.{AreBytes}
use Rattle.bank_form.specs.Fault.{Fault}
use Rattle.bank_form.specs.Bank.{Bank, level}
use Rattle.bank_form.specs.Encoding.{encode}
use Rattle.bank_form.specs.Fault.{version_in, bank_in, sound, wrong, or_else, unless, head_field, fault, fault_of}
use Rattle.bank_form.specs.File.{Holds, IsFile}
use Rattle.bank_form.proofs.Walk.{same_number, fault_refused, fault_accepted, else_assoc, else_stop, else_on, else_none}
use Rattle.bank_form.proofs.Walk.{field_none, unless_none}
use Rattle.bank_form.proofs.Exact.{exactly, is_file_lem, none_found}
use Rattle.bank_form.proofs.Conversions.{conversion_fault, raised_exactly, raised_place}
use Rattle.bank.specs.Writing.{WriteOutcome, write_refused, write_bank, write_as}
use Rattle.bank.specs.Conversion.{raised_for, output_fault, converted_bank, conversion_refusal, conversion}
use Rattle.bank.specs.Conversion.{ConversionPromise, ToVersion1Promise, ToVersion2Promise}
use Rattle.bank.proofs.Meets.{told_as}

-- ---- a bank into an output

-- what elevations are told by
abbrev pub raised_fault_at : ℕ → Bank → Fault
raised_fault_at v b = raised_for v b.length b.elevations

module _ (v : ℕ) (b : Bank) (out : List ℕ) where
  abbrev sized : Fault
  sized = unless (eqb (length out) (length (encode v b))) 5 0

  pub raised_told : (r : Fault) → r ≡ raised_fault_at v b → (r.refusal ≡ 0 → ⊥)
      → write_refused r out ≡ converted_bank v b out
  raised_told r e bad = fault_refused (write_bank v b) (λ f. write_refused f out) (output_fault v b out) r
      (sym (else_stop (raised_fault_at v b) sized r e bad)) bad

  module _ (none : (raised_fault_at v b).refusal ≡ 0) where
    past : output_fault v b out ≡ sized
    past = else_on (raised_fault_at v b) sized (raised_fault_at v b) refl none

    pub other_length : (length out ≡ length (encode v b) → ⊥) → write_refused (wrong 5 0) out ≡ converted_bank v b out
    other_length h = fault_refused (write_bank v b) (λ f. write_refused f out) (output_fault v b out) (wrong 5 0)
        (past ∙ rw (ne_eqb (length out) (length (encode v b)) h)) (λ z. omega (arith, z))

    right : length out ≡ length (encode v b) → output_fault v b out ≡ sound
    right h = past ∙ rw (eq-eqb (length out) (length (encode v b)) h)

    pub right_length : length out ≡ length (encode v b) → write_bank v b ≡ converted_bank v b out
    right_length h =
        fault_accepted (write_bank v b) (λ f. write_refused f out) (output_fault v b out) (same_number (right h))

  -- an output without fault: no elevations that have no place, and the length of the new file
  output_fits : (output_fault v b out).refusal ≡ 0 → ((raised_fault_at v b).refusal ≡ 0) × (length out
      ≡ length (encode v b))
  output_fits e =
      let both = else_none (raised_fault_at v b) sized e in (
        both.0,
        eqb-true (length out) (length (encode v b))
            (unless_none (eqb (length out) (length (encode v b))) 5 0 (omega arith) both.1),
      )

-- ---- a file into an output

module _ (from to : ℕ) (file out : List ℕ) where
  pub version_told : (r : Fault) → r ≡ fault_of from file → (r.refusal ≡ 0 → ⊥)
      → write_refused r out ≡ conversion from to file out
  unfolding conversion conversion_refusal
  version_told r e bad = fault_refused (write_bank to (bank_in file)) (λ f. write_refused f out)
      (conversion_refusal from to file out) r
      (sym (else_stop (fault_of from file) (output_fault to (bank_in file) out) r e bad)) bad

  pub version_right : (fault_of from file).refusal ≡ 0 → converted_bank to (bank_in file) out
      ≡ conversion from to file out
  unfolding conversion conversion_refusal
  version_right none = ap (λ (f : Fault). write_as f to (bank_in file) out)
      (sym (else_on (fault_of from file) (output_fault to (bank_in file) out) (fault_of from file) refl none))

  -- ---- what is told of the file

  -- a file without fault of the version that is asked for
  pub right_version : (fault_of from file).refusal ≡ 0 → (version_in file ≡ from) × ((fault file).refusal ≡ 0)
  unfolding fault_of head_field
  right_version e =
      let both = else_none (head_field (length file) file 0 1 13 from from) (fault file) e in
      let same = within_true from from (version_in file)
      (field_none (length file) 0 1 13 (within from from (version_in file)) (omega arith) both.0).1 in
      (omega (arith, same.0, same.1), both.1)

  module _ (bytes : AreBytes file) (o : WriteOutcome) (made : ConversionPromise from to file out o) where
    refusal_is : o.answer.refusal ≡ (conversion_refusal from to file out).refusal
    unfolding conversion
    refusal_is = ap (λ (w : WriteOutcome). w.answer.refusal) made
        ∙ told_as to (bank_in file) out (conversion_refusal from to file out)

    -- what is turned is a file of the one version, and its bank is put in the other
    pub turned_is : o.answer.refusal ≡ 0 → IsFile from file (bank_in file)
        × ((raised_fault_at to (bank_in file)).refusal ≡ 0)
        × (Holds to (bank_in file) → IsFile to o.file (bank_in file)) × (length out ≡ length o.file)
    unfolding conversion_refusal
    turned_is e =
        let both = else_none (fault_of from file) (output_fault to (bank_in file) out) (sym refusal_is ∙ e) in
        let version = right_version both.0 in
        let good = (exactly file bytes).sound (is_file_lem file version.1) in
        let fits = output_fits to (bank_in file) out both.1 in
        let whole = made ∙ sym (version_right both.0)
        ∙ sym (right_length to (bank_in file) out fits.0 fits.1) in (
          subst (λ (v : ℕ). IsFile v file (bank_in file)) version.0 good,
          fits.0,
          λ holds. record {
            holds = holds;
            keeps = good.keeps;
            bytes = ap (λ (w : WriteOutcome). w.file) (sym whole);
          },
          fits.1 ∙ sym (ap (λ (w : WriteOutcome). length w.file) whole),
        )

    -- and each file of that version is turned whose bank the other holds, into an output of the new file's length
    pub is_turned : (b : Bank) → IsFile from file b → (raised_fault_at to b).refusal ≡ 0
        → length out ≡ length (encode to b)
        → o ≡ write_bank to b
    is_turned b f none long =
        let whole = (exactly file bytes).complete from b f in
        let same = whole.2 in
        let sound = same_number (conversion_fault.right from file f.holds.known whole.1)
        ∙ none_found file whole.0 in
        made ∙ sym (version_right sound) ∙ ap (λ (c : Bank). converted_bank to c out) same
        ∙ sym (right_length to b out none long)

-- ---- the two conversions

-- version 2 holds every bank that keeps the form
pub holds_2 : (b : Bank) → Holds 2 b
holds_2 b = record { known = refl; levelled = λ e. absurd (omega (arith, e)) }

pub converts_2 : (file out : List ℕ) (o : WriteOutcome) → AreBytes file → ConversionPromise 1 2 file out o
    → ToVersion2Promise file out o
converts_2 file out o bytes made = record {
  bits = made;
  words = record {
    turned = λ e.
        let t = turned_is 1 2 file out bytes o made e in (t.0, t.2 (holds_2 (bank_in file)), t.3);
    accepted = λ b f long. is_turned 1 2 file out bytes o made b f refl long;
  };
}

-- no elevations are told exactly of a level bank
level_if : (b : Bank) → (raised_fault_at 1 b).refusal ≡ 0 → level b ≡ true
level_if b e = sym (raised_exactly b) ∙ eq-eqb (raised_fault_at 1 b).refusal 0 e

none_if : (b : Bank) → level b ≡ true → (raised_fault_at 1 b).refusal ≡ 0
none_if b e = eqb-true (raised_fault_at 1 b).refusal 0 (raised_exactly b ∙ e)

pub converts_1 : (file out : List ℕ) (o : WriteOutcome) → AreBytes file → ConversionPromise 2 1 file out o
    → ToVersion1Promise file out o
converts_1 file out o bytes made = record {
  bits = made;
  words = record {
    turned = λ e.
        let t = turned_is 2 1 file out bytes o made e in
        let flat = level_if (bank_in file) t.1 in
        (flat, t.0, t.2 (record { known = refl; levelled = λ one. flat }), t.3);
    accepted = λ b f flat long. is_turned 2 1 file out bytes o made b f (none_if b flat) long;
  };
}

-- ---- what is told in every output

-- forward the fault of the file
pub forward_told : (file out : List ℕ) (f : Fault) → fault_of 1 file ≡ f → (f.refusal ≡ 0 → ⊥)
    → conversion_refusal 1 2 file out ≡ f
unfolding conversion_refusal
forward_told file out f e bad = sym (else_stop (fault_of 1 file) (output_fault 2 (bank_in file) out) f (sym e) bad)

-- back that, and then elevations
pub back_told : (file out : List ℕ) (f : Fault) → or_else (fault_of 2 file) (raised_fault_at 1 (bank_in file)) ≡ f
    → (f.refusal ≡ 0 → ⊥) → conversion_refusal 2 1 file out ≡ f
unfolding conversion_refusal
back_told file out f e bad =
    sym (else_assoc (fault_of 2 file) (raised_fault_at 1 (bank_in file)) (sized 1 (bank_in file) out))
    ∙ sym (else_stop (or_else (fault_of 2 file) (raised_fault_at 1 (bank_in file))) (sized 1 (bank_in file) out) f
    (sym e)
    bad)

-- a bank with elevations is told by 21
pub raised_first : (file out : List ℕ) (o : WriteOutcome) (b : Bank) → AreBytes file → ConversionPromise 2 1 file out o
    → IsFile 2 file b → level b ≡ false → o.answer.refusal ≡ 21
raised_first file out o b bytes made f up =
    let whole = (exactly file bytes).complete 2 b f in
    let none = same_number (conversion_fault.right 2 file f.holds.known whole.1)
    ∙ none_found file whole.0 in
    ⊎_elim (λ s. absurd (true≢false (sym (ap (λ (g : Fault). eqb g.refusal 0) s) ∙ raised_exactly b ∙ up)))
    (λ r.
    let told = else_on (fault_of 2 file) (raised_fault_at 1 (bank_in file)) (fault_of 2 file) refl none
    ∙ ap (raised_fault_at 1) whole.2
    ∙ r.1.told in
    refusal_is 2 1 file out bytes o made ∙ same_number
    (back_told file out _ told (λ z. omega (arith, z))))
    (raised_place b)
