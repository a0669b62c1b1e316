-- What is answered to requests 6 to 8, 23 and 24, in the words and the order of docs/PROBE.md, 'Operations'.
-- Definitions only.
use Rattle.std.specs.Prelude.{◌+◌, ◌*◌}
use Rattle.lists.specs.Prelude.{ℕ, cond, List, eqb, leb, Float, ℤ, length, take, drop}
use Rattle.big_endian.specs.Bytes.{bytes_of}
use Rattle.big_endian.specs.Fields.{field_at, signed_at}
use Rattle.big_endian.specs.Lists.{signed_bytes, float_bytes, signeds_at, floats_at}
use Rattle.bank_form.specs.Bank.{Bank}
use Rattle.bank.specs.Reading.{ReadOutcome, read_outcome}
use Rattle.bank.specs.Writing.{WriteOutcome, write_outcome}
use Rattle.bank.specs.Conversion.{conversion}
use Rattle.bank_choice.specs.Choice.{Choice}
use Rattle.bank_choice.specs.Choice.{choice_of}
use Rattle.probe_request.specs.Requests.{lent_by, azimuths_lent, samples_lent}
use Rattle.probe_answer.specs.Answers.{Draft, none, taking, ◌then◌}
use Rattle.probe_bank.specs.Fillings.{angle_filling, tap_filling, byte_filling, filled_with, count_changed}

-- "s: taps to show (2)", "and s of operation 6 counts as t where it is more"
abbrev pub taps_shown : List ℕ → ℕ → ℕ
taps_shown args t = lent_by args 4 2 t

-- "b: bytes lent (2)", "up to [..] 33,000 bytes"
abbrev pub bytes_lent : List ℕ → ℕ → ℕ
bytes_lent args at = lent_by args at 2 33000

-- every answer begins so: "refusal (1)", and "offset (4)" or "row (4)"
abbrev pub refusal_and_number : ℕ → ℕ → List ℕ → Draft
refusal_and_number refusal n out = none out then bytes_of 1 refusal then bytes_of 4 n

-- ---- 6 bank read

-- "how many taps from s on have changed (2), the a azimuths (2 each), the e elevations (2 each), the first s taps (f32,
-- 4 each)"
unfoldable pub then_lists : Draft → ℕ → List ℤ → List ℤ → List Float → Draft
then_lists d s azimuths elevations taps = d then bytes_of 2 (count_changed s taps) then signed_bytes azimuths then
    signed_bytes elevations then float_bytes (take s taps)

-- "refusal (1), offset (4), rows (4), L (4)", and the lists "as they stand after the call"
unfoldable pub read_parts : ReadOutcome → ℕ → List ℕ → Draft
read_parts o s out =
    then_lists (refusal_and_number o.answer.refusal o.answer.offset out then bytes_of 4 o.answer.rows then
    bytes_of 4 o.answer.length) s o.azimuths o.elevations o.taps

-- "the file (the rest)" is read into lists of a, e and t places
abbrev pub read_by : List ℕ → ℕ → ℕ → ℕ → ReadOutcome
read_by args a e t =
    read_outcome (drop 6 args) (filled_with angle_filling a) (filled_with angle_filling e) (filled_with tap_filling t)

-- of which s taps are shown
unfoldable pub read_into : List ℕ → ℕ → ℕ → ℕ → List ℕ → Draft
read_into args a e t out = read_parts (read_by args a e t) (taps_shown args t) out

-- "a: azimuths lent (1), e: elevations lent (1), t: taps lent (2)"; there is as much room for elevations as for
-- azimuths
unfoldable pub read_answer : List ℕ → List ℕ → Draft
read_answer args out = cond (leb 6 (length args))
    (read_into args (azimuths_lent args 0) (azimuths_lent args 1) (samples_lent args 2) out) (none out)

-- ---- 7 bank write

-- "refusal (1), offset (4), bytes (4), the b bytes of the buffer"
unfoldable pub write_parts : WriteOutcome → List ℕ → Draft
write_parts o out =
    refusal_and_number o.answer.refusal o.answer.offset out then bytes_of 4 o.answer.bytes then o.file

-- a bank is written into a buffer of b bytes
unfoldable pub write_from : Bank → ℕ → List ℕ → Draft
write_from bank b out = write_parts (write_outcome bank (filled_with byte_filling b)) out

-- ".., L (8), the a azimuths (2 each), the e elevations (2 each), the t taps (f32, 4 each)"
unfoldable pub bank_at : List ℕ → ℕ → ℕ → ℕ → Bank
bank_at args a e t = record {
  azimuths = signeds_at args 14 a;
  elevations = signeds_at args (14 + 2 * a) e;
  length = field_at args 6 8;
  taps = floats_at args (14 + 2 * a + 2 * e) t;
}

unfoldable pub write_into : List ℕ → ℕ → ℕ → ℕ → ℕ → List ℕ → Draft
write_into args a e t b out = taking (14 + 2 * a + 2 * e + 4 * t) args out (write_from (bank_at args a e t) b out)

abbrev pub write_answer : List ℕ → List ℕ → Draft
write_answer args out =
    write_into args (azimuths_lent args 0) (azimuths_lent args 1) (samples_lent args 2) (bytes_lent args 4) out

-- ---- 8 row choice

-- "refusal (1), row (4)"
abbrev pub choice_parts : Choice → List ℕ → Draft
choice_parts r out = refusal_and_number r.refusal r.row out

-- "rows (8), the speaker's azimuth and elevation in tenths (2 each), the a azimuths (2 each), the e elevations (2
-- each)"
abbrev pub choice_by : List ℕ → ℕ → ℕ → Choice
choice_by args a e = choice_of (signeds_at args 14 a) (signeds_at args (14 + 2 * a) e) (field_at args 2 8)
    (signed_at args 10) (signed_at args 12)

unfoldable pub choose_from : List ℕ → ℕ → ℕ → List ℕ → Draft
choose_from args a e out = taking (14 + 2 * a + 2 * e) args out (choice_parts (choice_by args a e) out)

abbrev pub choose_answer : List ℕ → List ℕ → Draft
choose_answer args out = choose_from args (azimuths_lent args 0) (azimuths_lent args 1) out

-- ---- 23 to version 2, 24 to version 1

-- "23 takes version 1 and 24 version 2"
abbrev pub turned_by : ℕ → List ℕ → List ℕ → WriteOutcome
turned_by operation file output = cond (eqb operation 23) (conversion 1 2 file output) (conversion 2 1 file output)

-- "the file (the rest)" is turned into an output of b bytes
unfoldable pub turn_into : ℕ → List ℕ → ℕ → List ℕ → Draft
turn_into operation args b out = write_parts (turned_by operation (drop 2 args) (filled_with byte_filling b)) out

-- "b: bytes lent for the output (2)"
unfoldable pub turn_answer : ℕ → List ℕ → List ℕ → Draft
turn_answer operation args out =
    cond (leb 2 (length args)) (turn_into operation args (bytes_lent args 0) out) (none out)

-- ---- every operation of the family

abbrev pub answer_of : ℕ → List ℕ → List ℕ → Draft
answer_of operation args out =
    cond (eqb operation 6) (read_answer args out)
    (cond (eqb operation 7) (write_answer args out)
    (cond (eqb operation 8) (choose_answer args out)
    (cond (eqb operation 23) (turn_answer 23 args out)
    (cond (eqb operation 24) (turn_answer 24 args out)
    (none out)))))
