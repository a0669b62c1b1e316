-- What the promises say: a file is accepted exactly if it is the encoding of a
-- bank that keeps the form, and that bank is filled in (`accepted_is`, `is_accepted`); a bank is accepted exactly if it
-- keeps the form (`written_is`, `is_written`); reading what was written gives the same bank (`read_after_write`), and
-- writing what was read gives the same bytes of a file of version 2 (`write_after_read`), and of one of version 1 those
-- that turning it gives (`write_of_version_1`); a file of version 1 that was turned into version 2 is turned back to
-- the same bytes (`back_of_forward`), and the other way round (`forward_of_back`). Assumes nothing.
use Rattle.std.specs.Prelude.{◌≡◌, ◌*◌}
use Rattle.lists.specs.Prelude.{refl, sym, ap, ◌∙◌, true, List, ℕ, arith, eq-eqb, eqb-true, Float, ℤ, length, eqb}
use Rattle.lists.proofs.Placed.{take_placed}
use Rattle.bank_form.specs.Bank.{Bank, rows, valid}
use Rattle.bank_form.specs.Encoding.{encode}
use Rattle.bank_form.specs.Fault.{version_in, bank_in, fault}
use Rattle.bank_form.specs.WriteFault.{write_fault}
use Rattle.bank_form.specs.File.{IsFile}
use Rattle.bank_form.proofs.Exact.{keeps, is_file_lem}
use Rattle.bank_form.proofs.Writer.{write_none}
use Rattle.bank.specs.Reading.{ReadOutcome, read_bank, read_refusal, read_outcome, ReadPromise, bank_found}
use Rattle.bank.specs.Writing.{WriteOutcome, write_refusal, write_bank, write_outcome, WritePromise}
use Rattle.bank.specs.Conversion.{ToVersion1Promise, ToVersion2Promise}
use Rattle.bank.proofs.Meets.{as_told, Lists, Accepted, lists_accepted, read_good, LengthsFit, told_as, written}
use Rattle.bank.proofs.Meets.{written_lengths}
use Rattle.bank.proofs.Converting.{holds_2}

-- ---- reading

module _ (file : List ℕ) (zs es : List ℤ) (xs : List Float) where
  refusal_is : (read_outcome file zs es xs).answer.refusal ≡ (read_refusal file zs es xs).refusal
  unfolding read_outcome
  refusal_is = as_told zs es xs (read_refusal file zs es xs) (bank_in file)

  pub accepted_parts : (read_outcome file zs es xs).answer.refusal ≡ 0 → Accepted zs es xs (fault file)
  unfolding read_refusal
  accepted_parts e = lists_accepted zs es xs (fault file) (sym refusal_is ∙ e)

  -- what is accepted is a bank file, and its bank is filled in
  pub accepted_is : (o : ReadOutcome) → ReadPromise file zs es xs o → o.answer.refusal ≡ 0
      → IsFile (version_in file) file (bank_in file) × (o ≡ read_bank (bank_in file) zs es xs)
  accepted_is o r e =
      let a = accepted_parts (ap (λ (y : ReadOutcome). y.answer.refusal) (sym r.bits) ∙ e) in
      let good = is_file_lem file a.none in
      (r.words.sound good, r.bits ∙ sym (read_good zs es xs file a.lists good))

  -- and each bank file is accepted by lists of the lengths asked for
  pub is_accepted : (o : ReadOutcome) → ReadPromise file zs es xs o → Lists zs es xs → (v : ℕ) (b : Bank)
      → IsFile v file b
      → o ≡ read_bank b zs es xs
  is_accepted o r l v b f =
      let c = r.words.complete v b f in
      r.bits ∙ sym (read_good zs es xs file l c.0) ∙ ap (λ (y : Bank). read_bank y zs es xs) c.2

-- ---- writing

module _ (b : Bank) (file : List ℕ) where
  pub written_parts : (write_outcome b file).answer.refusal ≡ 0 → LengthsFit b file × ((write_fault 2 b).refusal ≡ 0)
  unfolding write_outcome
  written_parts e = written_lengths b file (sym (told_as 2 b file (write_refusal b file)) ∙ e)

  valid_if : LengthsFit b file → eqb (write_fault 2 b).refusal 0 ≡ valid b
  valid_if l = write_none 2 b l.counted.paired (l.counted.count ∙ omega arith)

  -- a bank that is accepted keeps the form, and its file is filled in
  pub written_is : (w : WriteOutcome) → WritePromise b file w → w.answer.refusal ≡ 0
      → (valid b ≡ true) × (w ≡ write_bank 2 b)
  written_is w r e =
      let p = written_parts (ap (λ (y : WriteOutcome). y.answer.refusal) (sym r) ∙ e) in
      (sym (valid_if p.0) ∙ eq-eqb (write_fault 2 b).refusal 0 p.1, r ∙ sym (written b file p.0 p.1))

  -- and each bank that keeps the form is accepted, with a buffer of its file's length
  pub is_written : (w : WriteOutcome) → WritePromise b file w → valid b ≡ true → length file ≡ length (encode 2 b)
      → w ≡ write_bank 2 b
  is_written w r h g =
      let k = keeps b h in
      let l : LengthsFit b file = record {
        counted = record { paired = k.paired; count = k.count ∙ omega arith };
        size = g;
      } in
      r ∙ sym (written b file l (eqb-true (write_fault 2 b).refusal 0 (valid_if l ∙ h)))

-- ---- there and back

-- reading what was written gives the same bank
pub read_after_write : (b : Bank) (buffer : List ℕ) (w : WriteOutcome) → WritePromise b buffer w
    → w.answer.refusal ≡ 0
    → (zs es : List ℤ) (xs : List Float) (o : ReadOutcome) → Lists zs es xs
    → ReadPromise w.file zs es xs o → o ≡ read_bank b zs es xs
read_after_write b buffer w r e zs es xs o l f =
    let p = written_is b buffer w r e in
    is_accepted w.file zs es xs o f l 2 b (record {
      holds =
          holds_2 b;
      keeps = p.0;
      bytes = ap (λ (y : WriteOutcome). y.file) (sym p.1);
    })

pub found : (b : Bank) (zs es : List ℤ) (xs : List Float) → length b.elevations ≡ rows b
    → length b.taps ≡ 2 * rows b * b.length → bank_found (read_bank b zs es xs) ≡ b
found b zs es xs g h = λ i. record {
  azimuths = take_placed zs b.azimuths (rows b) refl i;
  elevations = take_placed es b.elevations (rows b) g i;
  length = b.length;
  taps = take_placed xs b.taps (2 * rows b * b.length) h i;
}

-- which is that of the file
pub read_is : (file : List ℕ) (zs es : List ℤ) (xs : List Float) (o : ReadOutcome) → ReadPromise file zs es xs o
    → o.answer.refusal ≡ 0 → bank_found o ≡ bank_in file
read_is file zs es xs o r e =
    let p = accepted_is file zs es xs o r e in
    let k = keeps (bank_in file) p.0.keeps in
    ap bank_found p.1 ∙ found (bank_in file) zs es xs k.paired k.count

module _ (file : List ℕ) (zs es : List ℤ) (xs : List Float) (o : ReadOutcome) (r : ReadPromise file zs es xs o)
    (e : o.answer.refusal ≡ 0) where
  -- writing what was read gives its bank in version 2
  pub write_of_read : (buffer : List ℕ) (w : WriteOutcome) → length buffer ≡ length (encode 2 (bank_in file))
      → WritePromise (bank_found o) buffer w → w ≡ write_bank 2 (bank_in file)
  write_of_read buffer w h f = is_written (bank_in file) buffer w (rw (read_is file zs es xs o r e) at f)
      (accepted_is file zs es xs o r e).0.keeps h

  -- which are the same bytes of a file of version 2
  pub write_after_read : version_in file ≡ 2 → (buffer : List ℕ) (w : WriteOutcome) → length buffer ≡ length file
      → WritePromise (bank_found o) buffer w → w.file ≡ file
  write_after_read two buffer w h f =
      let same : encode 2 (bank_in file) ≡ file = ap (λ (v : ℕ). encode v (bank_in file)) (sym two)
      ∙ (accepted_is file zs es xs o r e).0.bytes in
      ap (λ (y : WriteOutcome). y.file) (write_of_read buffer w (h ∙ ap length (sym same)) f) ∙ same

  -- and of one of version 1 those that turning it into version 2 gives
  pub write_of_version_1 : (out : List ℕ) (t : WriteOutcome) → ToVersion2Promise file out t → t.answer.refusal ≡ 0
      → (buffer : List ℕ) (w : WriteOutcome) → length buffer ≡ length t.file
      → WritePromise (bank_found o) buffer w → w.file ≡ t.file
  write_of_version_1 out t turns g buffer w h f =
      let bytes = (turns.words.turned g).1.bytes in
      ap (λ (y : WriteOutcome). y.file) (write_of_read buffer w (h ∙ ap length (sym bytes)) f) ∙ bytes

-- an output that holds a file, and how many bytes that has
abbrev pub handed : List ℕ → WriteOutcome
handed file = record { answer = record { refusal = 0; offset = 0; bytes = length file }; file = file }

-- "turn into version 2 and back to the same bytes"
pub back_of_forward : (file out : List ℕ) (t : WriteOutcome) → ToVersion2Promise file out t → t.answer.refusal ≡ 0
    → (back : List ℕ) (u : WriteOutcome) → length back ≡ length file
    → ToVersion1Promise t.file back u → u ≡ handed file
back_of_forward file out t forward e back u h turns =
    let f = forward.words.turned e in
    turns.words.accepted (bank_in file) f.1 (f.0.holds.levelled refl) (h ∙ ap length (sym f.0.bytes))
    ∙ ap handed f.0.bytes

pub forward_of_back : (file out : List ℕ) (t : WriteOutcome) → ToVersion1Promise file out t → t.answer.refusal ≡ 0
    → (forth : List ℕ) (u : WriteOutcome) → length forth ≡ length file
    → ToVersion2Promise t.file forth u → u ≡ handed file
forward_of_back file out t back e forth u h turns =
    let f = back.words.turned e in
    turns.words.accepted (bank_in file) f.2 (h ∙ ap length (sym f.1.bytes)) ∙ ap handed f.1.bytes
