-- Answers of another shape than the code's, each of which a worked input shows to break its promise. Assumes nothing.
use Rattle.std.specs.Prelude.{◌≡◌, ◌∷◌}
use Rattle.lists.specs.Prelude.{refl, sym, ap, ◌∙◌, List, [], false, true≢false, ℕ, arith, Float, ℤ, pos, length, take}
use Rattle.lists.specs.Prelude.{drop, replicate, get_or, length-replicate}
use lib.Signed.{mag}
use Rattle.lists.specs.Placed.{placed}
use Rattle.big_endian.specs.Bytes.{bytes_of, AreBytes}
use Rattle.bank_form.specs.Bank.{Bank, pairs_of, valid, level}
use Rattle.bank_form.specs.Encoding.{row_bytes, head_bytes, encode}
use Rattle.bank_form.specs.Fault.{version_in, bank_in, wrong}
use Rattle.bank_form.specs.File.{IsFile}
use Rattle.bank_form.proofs.Exact.{version_of}
use Rattle.bank_form.proofs.Worked.{written_no_rows}
use Rattle.bank.specs.Reading.{ReadOutcome, read_refused, read_bank, ReadPromise, ReadStartPromise}
use Rattle.bank.specs.Writing.{WriteOutcome, write_refused, write_outcome, WritePromise}
use Rattle.bank.specs.Conversion.{ToVersion1Promise, ToVersion2Promise}
use Rattle.bank.specs.Drill.{one_row, one_row_bytes, one_row_bytes2}
use Rattle.bank.proofs.Meets.{Lists, lists_fit, start_lent, breaks}
use Rattle.bank.proofs.Converting.{raised_first}
use Rattle.bank.proofs.Laws.{accepted_parts, written_parts, written_is}
use Rattle.bank.proofs.Drill.{drill_read, drill_cut, drill_written, drill_forward, drill_back}

-- lists that hold something else than what the file would bring
sevens : List ℤ
sevens = pos 7 ∷ pos 7 ∷ pos 7 ∷ pos 7 ∷ pos 7 ∷ pos 7 ∷ pos 7 ∷ pos 7 ∷ []

-- a bank of no rows, with an L that is too large
no_rows : Bank
no_rows = record { azimuths = []; elevations = []; length = 513; taps = [] }

no_rows_told : (buffer : List ℕ) → length buffer ≡ 9 → write_refused (wrong 15 5) buffer ≡ write_outcome no_rows buffer
unfolding no_rows encode head_bytes row_bytes pairs_of bytes_of
no_rows_told buffer h = breaks no_rows buffer (record { counted = record { paired = refl; count = refl }; size = h })
    (wrong 15 5) (sym written_no_rows) (λ z. omega (arith, z))

-- ---- reading

module _ (xs : List Float) (h : length xs ≡ 8192) where
  full : Lists sevens sevens xs
  unfolding sevens
  full = record { azimuths = refl; elevations = refl; taps = h }

  -- what reading the example leaves, and reading it without its last byte
  whole : (o : ReadOutcome) → ReadPromise one_row_bytes sevens sevens xs o → o ≡ read_bank one_row sevens sevens xs
  whole = drill_read sevens sevens xs full

  cut : (o : ReadOutcome) → ReadPromise (take 18 one_row_bytes) sevens sevens xs o
      → o ≡ read_refused (wrong 14 1) sevens sevens xs
  cut = drill_cut sevens sevens xs full

  -- the azimuth is filled in, and then the file turns out to be cut short
  filled_before_the_check : ReadPromise (take 18 one_row_bytes) sevens sevens xs
      (record {
        answer = record { refusal = 14; offset = 1; rows = 0; length = 0 };
        azimuths = pos 0 ∷ drop 1 sevens;
        elevations = sevens;
        taps = xs;
      }) → ⊥
  unfolding sevens
  filled_before_the_check r =
      let z : ◌≡◌ {A = ℕ} 0 7 = ap (λ (o : ReadOutcome). mag (get_or o.azimuths 0 (pos 0))) (cut _ r) in omega arith

  -- every file is refused
  refuses_always : ReadPromise one_row_bytes sevens sevens xs (read_refused (wrong 14 1) sevens sevens xs) → ⊥
  refuses_always r = omega (arith, ap (λ (o : ReadOutcome). o.answer.refusal) (whole _ r))

  -- accepted, and nothing filled in
  fills_nothing : ReadPromise one_row_bytes sevens sevens xs
      (record {
        answer = record { refusal = 0; offset = 0; rows = 1; length = 1 };
        azimuths = sevens;
        elevations = sevens;
        taps = xs;
      }) → ⊥
  unfolding sevens placed
  fills_nothing r =
      let z : ◌≡◌ {A = ℕ} 7 0 = ap (λ (o : ReadOutcome). mag (get_or o.azimuths 0 (pos 0))) (whole _ r) in omega arith

  -- the elevations of a file of version 1 are left as they were: whatever the azimuths and the taps hold
  elevations_left : (zs : List ℤ) (ys : List Float)
      → ReadPromise one_row_bytes sevens sevens xs
      (record {
        answer = record { refusal = 0; offset = 0; rows = 1; length = 1 };
        azimuths = zs;
        elevations = sevens;
        taps = ys;
      }) → ⊥
  unfolding sevens placed
  elevations_left zs ys r =
      let z : ◌≡◌ {A = ℕ} 7 0 = ap (λ (o : ReadOutcome). mag (get_or o.elevations 0 (pos 0))) (whole _ r) in
      omega arith

  -- a cut file is read as far as it goes
  reads_what_is_there : ReadPromise (take 18 one_row_bytes) sevens sevens xs (read_bank one_row sevens sevens xs) → ⊥
  reads_what_is_there r = omega (arith, ap (λ (o : ReadOutcome). o.answer.refusal) (cut _ r))

  -- a file that is cut short is told otherwise than by 14 at 1: as 9, as 19 at its end, or at another place
  cut_told_otherwise : (n at : ℕ) → ((n ≡ 14) × (at ≡ 1) → ⊥)
      → ReadPromise (take 18 one_row_bytes) sevens sevens xs (read_refused (wrong n at) sevens sevens xs) → ⊥
  cut_told_otherwise n at other r =
      let e = cut _ r in
      other (ap (λ (o : ReadOutcome). o.answer.refusal) e, ap (λ (o : ReadOutcome). o.answer.offset) e)

  -- a start that is too short is accepted, zeros read for the bytes that it lacks
  short_start_read : (o : ReadOutcome) → ReadStartPromise (take 9 one_row_bytes) 19 sevens sevens xs o
      → o.answer.refusal ≡ 0
      → ⊥
  short_start_read o r e =
      let five = r.bits ∙ sym (start_lent sevens sevens xs (take 9 one_row_bytes) 19 (lists_fit sevens sevens xs full)
      refl) in
      omega (arith, e, ap (λ (q : ReadOutcome). q.answer.refusal) five)

-- lists of other lengths are accepted
other_lists_read : (file : List ℕ) (zs es : List ℤ) (xs : List Float) (o : ReadOutcome) → ReadPromise file zs es xs o
    → (Lists zs es xs → ⊥) → o.answer.refusal ≡ 0 → ⊥
other_lists_read file zs es xs o r other e =
    other (accepted_parts file zs es xs (ap (λ (q : ReadOutcome). q.answer.refusal) (sym r.bits) ∙ e)).lists

-- ---- writing

-- accepted, and nothing written
writes_nothing : WritePromise one_row (replicate 21 0)
    (record { answer = record { refusal = 0; offset = 0; bytes = 21 }; file = replicate 21 0 }) → ⊥
writes_nothing r =
    let z : ◌≡◌ {A = ℕ} 0 2 = ap (λ (w : WriteOutcome). get_or w.file 0 0)
    (drill_written (replicate 21 0) _ (length-replicate {A = ℕ} 21 0) r) in
    omega arith

-- a file of version 1 is written
version_1_written : (buffer : List ℕ) (w : WriteOutcome) → length buffer ≡ 21 → WritePromise one_row buffer w
    → get_or w.file 0 0 ≡ 1 → ⊥
version_1_written buffer w h r e =
    let z : ◌≡◌ {A = ℕ} 1 2 = sym e ∙ ap (λ (q : WriteOutcome). get_or q.file 0 0) (drill_written buffer w h r) in
    omega arith

-- a bank of no rows, with an L that is too large, is told otherwise than by 15 at 5: by its L, which would stand behind
-- the row count, or at another place
no_rows_told_otherwise : (n at : ℕ) → ((n ≡ 15) × (at ≡ 5) → ⊥) → (buffer : List ℕ) → length buffer ≡ 9
    → WritePromise no_rows buffer (write_refused (wrong n at) buffer) → ⊥
no_rows_told_otherwise n at other buffer h r =
    let e = r ∙ sym (no_rows_told buffer h) in
    other (ap (λ (w : WriteOutcome). w.answer.refusal) e, ap (λ (w : WriteOutcome). w.answer.offset) e)

-- a bank that breaks the form is written
broken_bank_written : (b : Bank) (buffer : List ℕ) (w : WriteOutcome) → WritePromise b buffer w → valid b ≡ false
    → w.answer.refusal ≡ 0 → ⊥
broken_bank_written b buffer w r broken e = true≢false (sym (written_is b buffer w r e).0 ∙ broken)

-- a buffer is taken that is longer than the file, or shorter
other_buffer_taken : (b : Bank) (buffer : List ℕ) (w : WriteOutcome) → WritePromise b buffer w
    → (length buffer ≡ length (encode 2 b) → ⊥) → w.answer.refusal ≡ 0 → ⊥
other_buffer_taken b buffer w r other e =
    other (written_parts b buffer (ap (λ (q : WriteOutcome). q.answer.refusal) (sym r) ∙ e)).0.size

-- ---- conversions

-- what is made has the version that the file had
forward_left_at_1 : (out : List ℕ) (w : WriteOutcome) → length out ≡ 21 → ToVersion2Promise one_row_bytes out w
    → get_or w.file 0 0 ≡ 1 → ⊥
forward_left_at_1 out w h t e =
    let z : ◌≡◌ {A = ℕ} 1 2 = sym e ∙ ap (λ (q : WriteOutcome). get_or q.file 0 0) (drill_forward out w h t) in
    omega arith

back_left_at_2 : (out : List ℕ) (w : WriteOutcome) → length out ≡ 19 → ToVersion1Promise one_row_bytes2 out w
    → get_or w.file 0 0 ≡ 2 → ⊥
back_left_at_2 out w h t e =
    let z : ◌≡◌ {A = ℕ} 2 1 = sym e ∙ ap (λ (q : WriteOutcome). get_or q.file 0 0) (drill_back out w h t) in
    omega arith

-- every file is refused
forward_refuses_always : (out : List ℕ) (w : WriteOutcome) → length out ≡ 21 → ToVersion2Promise one_row_bytes out w
    → (w.answer.refusal ≡ 0 → ⊥) → ⊥
forward_refuses_always out w h t refuses =
    refuses (ap (λ (q : WriteOutcome). q.answer.refusal) (drill_forward out w h t))

back_refuses_always : (out : List ℕ) (w : WriteOutcome) → length out ≡ 19 → ToVersion1Promise one_row_bytes2 out w
    → (w.answer.refusal ≡ 0 → ⊥) → ⊥
back_refuses_always out w h t refuses = refuses (ap (λ (q : WriteOutcome). q.answer.refusal) (drill_back out w h t))

-- a file with elevations is turned back, these being dropped
elevations_dropped : (file out : List ℕ) (w : WriteOutcome) → ToVersion1Promise file out w
    → level (bank_in file) ≡ false
    → w.answer.refusal ≡ 0 → ⊥
elevations_dropped file out w t raised e = true≢false (sym (t.words.turned e).0 ∙ raised)

-- a file that is in the new version already is taken
version_2_taken : (file out : List ℕ) (w : WriteOutcome) → ToVersion2Promise file out w → version_in file ≡ 2
    → w.answer.refusal ≡ 0 → ⊥
version_2_taken file out w t two e =
    omega (arith, two, version_of 1 file (bank_in file) (t.words.turned e).0)

version_1_taken : (file out : List ℕ) (w : WriteOutcome) → ToVersion1Promise file out w → version_in file ≡ 1
    → w.answer.refusal ≡ 0 → ⊥
version_1_taken file out w t one e =
    omega (arith, one, version_of 2 file (bank_in file) (t.words.turned e).1)

-- an output is taken that has another length than what is made
other_output_taken_2 : (file out : List ℕ) (w : WriteOutcome) → ToVersion2Promise file out w
    → (length out ≡ length w.file → ⊥) → w.answer.refusal ≡ 0 → ⊥
other_output_taken_2 file out w t other e = other (t.words.turned e).2

other_output_taken_1 : (file out : List ℕ) (w : WriteOutcome) → ToVersion1Promise file out w
    → (length out ≡ length w.file → ⊥) → w.answer.refusal ≡ 0 → ⊥
other_output_taken_1 file out w t other e = other (t.words.turned e).3

-- of a bank with elevations the length of the output is told first
length_before_elevations : (file out : List ℕ) (w : WriteOutcome) (b : Bank) → AreBytes file
    → ToVersion1Promise file out w
    → IsFile 2 file b → level b ≡ false → w.answer.refusal ≡ 5 → ⊥
length_before_elevations file out w b bytes t f up e =
    omega (arith, e, raised_first file out w b bytes t.bits f up)
