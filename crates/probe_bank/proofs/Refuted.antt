-- What the promise rules out: of a bank to read the rows in the place of the offset, any answer to a bank to write
-- whose lists are not as long as it says, on a worked request a speaker from one byte early, and of a file that is
-- turned what is told of one of another version. Assumes nothing.
use Rattle.std.specs.Prelude.{◌≡◌, ◌∷◌, ◌++◌, ◌+◌, ◌*◌, ◌%◌, ◌^◌, ◌≤◌}
use Rattle.lists.specs.Prelude.{refl, sym, ap, ◌∙◌, List, [], ℕ, arith, le-leb, length, take, drop, replicate}
use Rattle.lists.specs.Prelude.{length-drop}
use Rattle.lists.proofs.Tests.{cond_true}
use Rattle.big_endian.specs.Bytes.{value_of, bytes_of}
use Rattle.big_endian.specs.Fields.{field_at, signed_at}
use Rattle.big_endian.specs.Lists.{strided, signed_bytes, float_bytes, signeds_at}
use Rattle.bank_form.specs.Fault.{version_in, wrong}
use Rattle.bank_form.proofs.Conversions.{conversion_fault}
use Rattle.bank.specs.Writing.{WriteOutcome}
use Rattle.bank.specs.Conversion.{conversion}
use Rattle.bank.proofs.Converting.{version_told}
use Rattle.bank_choice.specs.Choice.{in_tenths, is_elevation, choice_refusal, choice_of}
use Rattle.probe_request.specs.Requests.{azimuths_lent, samples_lent}
use Rattle.probe_answer.specs.Answers.{Draft, none}
use Rattle.probe_answer.proofs.Meets.{untaken}
use Rattle.probe_answer.proofs.Standing.{Told, first_told, second_told, taken_told}
use Rattle.probe_bank.specs.Fillings.{byte_filling, filled_with, count_changed}
use Rattle.probe_bank.specs.Answers.{taps_shown, bytes_lent, then_lists, read_parts, read_by, read_into, read_answer}
use Rattle.probe_bank.specs.Answers.{write_parts, write_into, choice_parts, choice_by, choose_from, turn_into}
use Rattle.probe_bank.specs.Answers.{turn_answer, answer_of}

-- ---- 6 bank read

-- the offset is left out, or stands behind the rows
rows_in_the_place_of_the_offset : (args out : List ℕ) (r : Draft)
    → let o = read_by args (azimuths_lent args 0) (azimuths_lent args 1) (samples_lent args 2) in
    r ≡ answer_of 6 args out → 6 ≤ length args → 5 ≤ length out
    → (o.answer.offset % 256 ^ 4 ≡ o.answer.rows % 256 ^ 4 → ⊥)
    → field_at r.bytes 1 4 ≡ o.answer.rows % 256 ^ 4 → ⊥
unfolding read_answer read_into read_parts then_lists
rows_in_the_place_of_the_offset args out r is long room differs e =
    let t = samples_lent args 2 in
    let s = taps_shown args t in
    let o = read_by args (azimuths_lent args 0) (azimuths_lent args 1) t in
    let counts : List (List ℕ) = bytes_of 4 o.answer.rows ∷ bytes_of 4 o.answer.length ∷ [] in
    let lists : List (List ℕ) = bytes_of 2 (count_changed s o.taps) ∷ signed_bytes o.azimuths
    ∷ signed_bytes o.elevations ∷ float_bytes (take s o.taps) ∷ [] in
    let told = second_told o.answer.refusal 4 o.answer.offset (counts ++ lists) out (omega arith) room in
    let given = is ∙ cond_true _ _ (le-leb 6 (length args) long) in
    differs (sym told.value ∙ sym (ap (λ (d : Draft). field_at d.bytes 1 4) given) ∙ e)

-- ---- 7 bank write

-- arguments of another length than the lists say are answered, or the lent bytes are put over
misfit_answered : (args out : List ℕ) (r : Draft) → r ≡ answer_of 7 args out
    → (length args ≡ 14 + 2 * azimuths_lent args 0 + 2 * azimuths_lent args 1 + 4 * samples_lent args 2 → ⊥)
    → (r ≡ none out → ⊥) → ⊥
unfolding write_into
misfit_answered args out r is misfit other = other (is ∙ sym (untaken _ args out _ misfit))

-- ---- 8 row choice

-- eight azimuths, eight elevations and eight rows, and a speaker at 0 and 0
abbrev ahead : List ℕ
ahead = 8 ∷ 8 ∷ 0 ∷ 0 ∷ 0 ∷ 0 ∷ 0 ∷ 0 ∷ 0 ∷ 8 ∷ replicate 36 0

-- the speaker's azimuth is read one byte early, and so refused
speaker_one_byte_early : (out : List ℕ) (r : Draft) → 1 ≤ length out → r ≡ answer_of 8 ahead out
    → r ≡ choice_parts
    (choice_of (signeds_at ahead 14 8) (signeds_at ahead 30 8) 8 (signed_at ahead 9) (signed_at ahead 12))
    out → ⊥
unfolding choose_from field_at signed_at value_of strided choice_of choice_refusal in_tenths is_elevation
speaker_one_byte_early out r room is e =
    let early = choice_of (signeds_at ahead 14 8) (signeds_at ahead 30 8) 8 (signed_at ahead 9) (signed_at ahead 12) in
    let wrong = ap (λ (d : Draft). field_at d.bytes 0 1) e
    ∙ (first_told early.refusal (bytes_of 4 early.row ∷ []) out room).value in
    let choice = choice_by ahead 8 8 in
    let right = taken_told 46 ahead out r is refl
    (first_told choice.refusal (bytes_of 4 choice.row ∷ []) out room) in
    omega (arith, wrong, right)

-- ---- 23 to version 2, 24 to version 1

-- what is told of a file of another version is not told of one that is turned
module _ (out : List ℕ) (room : 1 ≤ length out) where
  refusal_told : (o : WriteOutcome) → Told 0 1 o.answer.refusal (write_parts o out)
  unfolding write_parts
  refusal_told o = first_told o.answer.refusal
      (bytes_of 4 o.answer.offset ∷ bytes_of 4 o.answer.bytes ∷ o.file ∷ []) out room

  other_told : (o : WriteOutcome) (from to : ℕ) (file output : List ℕ) → o.answer.refusal ≡ 0 → 1 ≤ length file
      → (version_in file ≡ from → ⊥) → write_parts o out ≡ write_parts (conversion from to file output) out → ⊥
  other_told o from to file output accepted some other e =
      let thirteen = version_told from to file output (wrong 13 0) (sym (conversion_fault.other from file some other))
      (λ z. omega (arith, z)) in
      let right = (refusal_told o).value in
      let given = ap (λ (d : Draft). field_at d.bytes 0 1) e ∙ (refusal_told (conversion from to file output)).value in
      omega (arith, accepted, right, given, sym (ap (λ (w : WriteOutcome). w.answer.refusal) thirteen))

module _ (args out : List ℕ) (r : Draft) (long : 3 ≤ length args) (room : 1 ≤ length out) where
  abbrev file : List ℕ
  file = drop 2 args

  abbrev output : List ℕ
  output = filled_with byte_filling (bytes_lent args 0)

  some : 1 ≤ length file
  some = simp length-drop (omega arith)

  answer_given : (operation : ℕ) → turn_answer operation args out ≡ turn_into operation args (bytes_lent args 0) out
  unfolding turn_answer
  answer_given operation = cond_true _ _ (le-leb 2 (length args) (omega arith))

  -- a file of version 2 that is turned back is answered as 23 is
  back_as_forth : r ≡ answer_of 24 args out → (conversion 2 1 file output).answer.refusal ≡ 0 → version_in file ≡ 2
      → r ≡ answer_of 23 args out → ⊥
  unfolding turn_into
  back_as_forth is accepted two e =
      other_told out room (conversion 2 1 file output) 1 2 file output accepted some (λ one. omega (arith, two, one))
      (sym (answer_given 24) ∙ sym is ∙ e ∙ answer_given 23)

  -- the file is taken with the two bytes before it
  file_from_the_start : r ≡ answer_of 23 args out → (conversion 1 2 file output).answer.refusal ≡ 0
      → (version_in args ≡ 1 → ⊥) → r ≡ write_parts (conversion 1 2 args output) out → ⊥
  unfolding turn_into
  file_from_the_start is accepted other e =
      other_told out room (conversion 1 2 file output) 1 2 args output accepted (omega arith) other
      (sym (answer_given 23) ∙ sym is ∙ e)
