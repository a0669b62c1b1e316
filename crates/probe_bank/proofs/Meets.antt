-- What is put is the answer of each operation. Assumes nothing.
use Rattle.std.specs.Prelude.{◌≡◌, ◌+◌, ◌-◌, ◌*◌, ◌≤◌, ◌<◌, Result, Ok, Err}
use Rattle.std.specs.Result.{result_unwrap_or}
use Rattle.lists.specs.Prelude.{refl, sym, ap, ◌∙◌, List, ℕ, arith, le-leb, lt-leb, ne_eqb, ℤ, Float, length, take}
use Rattle.lists.specs.Prelude.{drop, length-drop, take_all}
use Rattle.big_endian.specs.Fields.{field_at, signed_at, float_at}
use Rattle.bank_form.specs.Bank.{Bank}
use Rattle.bank_form.specs.Fault.{found}
use Rattle.bank_form.specs.declared.Fault.{Fault as FaultFound}
use Rattle.bank.specs.declared.BankRead.{BankRead as Counts}
use Rattle.bank.specs.Reading.{ReadOutcome, read_outcome, read_answer as read_answer_of}
use Rattle.bank.specs.Writing.{WriteOutcome, write_outcome, written_answer}
use Rattle.bank_choice.specs.Choice.{Choice}
use Rattle.bank_choice.specs.Choice.{choice_of}
use Rattle.lists.proofs.Tables.{length_tab}
use Rattle.probe_request.specs.Requests.{lent_by, azimuths_lent, samples_lent, list_at}
use Rattle.probe_answer.specs.Answers.{Draft, none, ◌then◌, then_field}
use Rattle.probe_answer.proofs.Meets.{taken, untaken, answered}
use Rattle.probe_request.proofs.Requests.{inside}
use Rattle.probe_bank.specs.Fillings.{angle_filling, tap_filling, byte_filling, filled_with}
use Rattle.probe_bank.specs.Answers.{bytes_lent, refusal_and_number, then_lists, read_parts, read_into, read_answer}
use Rattle.probe_bank.specs.Answers.{bank_at, write_parts, write_from, write_into, write_answer, choice_parts}
use Rattle.probe_bank.specs.Answers.{choose_from, choose_answer, turned_by, turn_into, turn_answer, answer_of}

-- the file that stands behind k bytes of arguments
pub file_rest : (k : ℕ) (args : List ℕ) → take (length args - k) (drop k args) ≡ drop k args
file_rest k args = take_all (length args - k) (drop k args) (simp length-drop (omega arith))

-- ---- what is told of an answer about a file

-- beside a fault of reading
abbrev nothing : Counts
nothing = record { rows = 0; length = 0 }

read_told : (r : Result Counts FaultFound) → record {
  refusal = (found r).refusal;
  offset = (found r).offset;
  rows = (result_unwrap_or r nothing).rows;
  length = (result_unwrap_or r nothing).length;
} ≡ read_answer_of r
read_told (Ok n) = refl
read_told (Err f) = refl

written_told : (r : Result ℕ FaultFound) → record {
  refusal = (found r).refusal;
  offset = (found r).offset;
  bytes = result_unwrap_or r 0;
} ≡ written_answer r
written_told (Ok n) = refl
written_told (Err f) = refl

module _ (out : List ℕ) {a b : Draft} where
  pub read_shown : (r : Result Counts FaultFound) {read : Counts} {c d : Draft} (s : ℕ) (zs es : List ℤ)
      (xs : List Float) → read ≡ result_unwrap_or r nothing
      → a ≡ refusal_and_number (found r).refusal (found r).offset out → b ≡ then_field a 4 read.rows
      → c ≡ then_field b 4 read.length → d ≡ then_lists c s zs es xs
      → d ≡ read_parts (record { answer = read_answer_of r; azimuths = zs; elevations = es; taps = xs }) s out
  unfolding read_parts
  read_shown r s zs es xs is first second third lists =
      let rows = second ∙ (λ i. then_field (first i) 4 (is i).rows) in
      let length = third ∙ (λ i. then_field (rows i) 4 (is i).length) in
      lists ∙ (λ i. then_lists (length i) s zs es xs)
      ∙ (λ i. read_parts (record { answer = read_told r i; azimuths = zs; elevations = es; taps = xs }) s out)

  pub written_shown : (r : Result ℕ FaultFound) {bytes : ℕ} {c : Draft} (file : List ℕ) → bytes ≡ result_unwrap_or r 0
      → a ≡ refusal_and_number (found r).refusal (found r).offset out → b ≡ then_field a 4 bytes
      → c ≡ b then file
      → c ≡ write_parts (record { answer = written_answer r; file = file }) out
  unfolding write_parts
  written_shown r file is first second rest =
      let bytes = second ∙ (λ i. then_field (first i) 4 (is i)) in
      rest ∙ (λ i. bytes i then file) ∙ (λ i. write_parts (record { answer = written_told r i; file = file }) out)

-- ---- 6 bank read

module _ (args out : List ℕ) (d : Draft) (a e t : ℕ) where
  pub read_put : (file : List ℕ) (zs es : List ℤ) (xs : List Float) (o : ReadOutcome) (s : ℕ) → file ≡ drop 6 args
      → zs ≡ filled_with angle_filling a → es ≡ filled_with angle_filling e
      → xs ≡ filled_with tap_filling t → o ≡ read_outcome file zs es xs → length o.taps ≡ length xs
      → s ≡ lent_by args 4 2 (length o.taps) → d ≡ read_parts o s out → d ≡ read_into args a e t out
  unfolding read_into
  read_put file zs es xs o s rest azimuths elevations taps is kept shown put =
      let many : length xs ≡ t = ap length taps ∙ length_tab 0 t tap_filling in put ∙ cc

  pub read_lent : a ≡ azimuths_lent args 0 → e ≡ azimuths_lent args 1 → t ≡ samples_lent args 2 → 6 ≤ length args
      → d ≡ read_into args a e t out → d ≡ read_answer args out
  unfolding read_answer
  read_lent first second third h is =
      is ∙ (λ j. read_into args (first j) (second j) (third j) out) ∙ sym (rw (le-leb 6 (length args) h))

pub read_short : (args out : List ℕ) → length args < 6 → none out ≡ read_answer args out
unfolding read_answer
read_short args out h = sym (rw (lt-leb 6 (length args) h))

-- ---- 7 bank write

pub written : (bank : Bank) (b : ℕ) (file : List ℕ) (o : WriteOutcome) (out : List ℕ) (d : Draft)
    → file ≡ filled_with byte_filling b → o ≡ write_outcome bank file → d ≡ write_parts o out
    → d ≡ write_from bank b out
unfolding write_from
written bank b file o out d filled e put = put ∙ cc

module _ (args : List ℕ) (zs es : List ℤ) (xs : List Float) (b : ℕ) (out : List ℕ) where
  -- where the elevations and the taps stand
  abbrev behind_azimuths : ℕ
  behind_azimuths = 14 + 2 * length zs

  abbrev behind_elevations : ℕ
  behind_elevations = behind_azimuths + 2 * length es

  pub write_misfit : (length args ≡ behind_elevations + 4 * length xs → ⊥)
      → none out ≡ write_into args (length zs) (length es) (length xs) b out
  unfolding write_into
  write_misfit h = untaken _ args out _ h

  pub write_read : (azimuths elevations : List ℤ) (taps : List Float) (l : ℕ) (d : Draft)
      → length args ≡ behind_elevations + 4 * length xs → azimuths ≡ list_at signed_at 2 args 14 zs
      → elevations ≡ list_at signed_at 2 args behind_azimuths es → taps ≡ list_at float_at 4 args behind_elevations xs
      → l ≡ field_at args 6 8
      → d ≡ write_from (record { azimuths = azimuths; elevations = elevations; length = l; taps = taps }) b out
      → d ≡ write_into args (length zs) (length es) (length xs) b out
  unfolding write_into bank_at
  write_read azimuths elevations taps l d long first second third field is =
      let p = inside signed_at 2 args 14 zs azimuths first (omega arith) in
      let q = inside signed_at 2 args behind_azimuths es elevations second (omega arith) in
      let r = inside float_at 4 args behind_elevations xs taps third (omega arith) in
      is ∙ (λ j. write_from (record { azimuths = p j; elevations = q j; length = field j; taps = r j }) b out)
      ∙ taken _ args out _ long

pub write_lent : (args out : List ℕ) (d : Draft) (a e t b : ℕ) → a ≡ azimuths_lent args 0 → e ≡ azimuths_lent args 1
    → t ≡ samples_lent args 2 → b ≡ bytes_lent args 4 → d ≡ write_into args a e t b out
    → d ≡ write_answer args out
write_lent args out d a e t b first second third fourth is =
    is ∙ (λ j. write_into args (first j) (second j) (third j) (fourth j) out)

-- ---- 8 row choice

module _ (args : List ℕ) (zs es : List ℤ) (out : List ℕ) where
  pub choice_misfit : (length args ≡ 14 + 2 * length zs + 2 * length es → ⊥)
      → none out ≡ choose_from args (length zs) (length es) out
  unfolding choose_from
  choice_misfit h = untaken _ args out _ h

  pub choice_read : (azimuths elevations : List ℤ) (rows : ℕ) (p q : ℤ) (r : Choice) (d : Draft)
      → length args ≡ 14 + 2 * length zs + 2 * length es → azimuths ≡ list_at signed_at 2 args 14 zs
      → elevations ≡ list_at signed_at 2 args (14 + 2 * length zs) es → rows ≡ field_at args 2 8 → p ≡ signed_at args 10
      → q ≡ signed_at args 12 → r ≡ choice_of azimuths elevations rows p q
      → d ≡ choice_parts r out → d ≡ choose_from args (length zs) (length es) out
  unfolding choose_from
  choice_read azimuths elevations rows p q r d long first second field azimuth elevation is put =
      let u = inside signed_at 2 args 14 zs azimuths first (omega arith) in
      let v = inside signed_at 2 args (14 + 2 * length zs) es elevations second (omega arith) in
      answered (λ (c : Choice). choice_parts c out) _ args out long
      (is ∙ (λ j. choice_of (u j) (v j) (field j) (azimuth j) (elevation j))) put

pub choice_lent : (args out : List ℕ) (d : Draft) (a e : ℕ) → a ≡ azimuths_lent args 0 → e ≡ azimuths_lent args 1
    → d ≡ choose_from args a e out → d ≡ choose_answer args out
choice_lent args out d a e first second is = is ∙ (λ j. choose_from args (first j) (second j) out)

-- ---- 23 to version 2, 24 to version 1

module _ (operation : ℕ) (args out : List ℕ) where
  pub turn_put : (b : ℕ) {file output : List ℕ} {o : WriteOutcome} {d : Draft} → d ≡ write_parts o out
      → o ≡ turned_by operation file output → file ≡ drop 2 args → output ≡ filled_with byte_filling b
      → d ≡ turn_into operation args b out
  unfolding turn_into
  turn_put b put is rest filled = put ∙ cc

  pub turn_lent : (b : ℕ) (d : Draft) → b ≡ bytes_lent args 0 → 2 ≤ length args → d ≡ turn_into operation args b out
      → d ≡ turn_answer operation args out
  unfolding turn_answer
  turn_lent b d first h is =
      is ∙ ap (λ (n : ℕ). turn_into operation args n out) first ∙ sym (rw (le-leb 2 (length args) h))

  pub turn_short : length args < 2 → none out ≡ turn_answer operation args out
  unfolding turn_answer
  turn_short h = sym (rw (lt-leb 2 (length args) h))

-- ---- every operation

pub of_none : (operation : ℕ) (args out : List ℕ) → (operation ≡ 6 → ⊥) → (operation ≡ 7 → ⊥) → (operation ≡ 8 → ⊥)
    → (operation ≡ 23 → ⊥) → (operation ≡ 24 → ⊥)
    → none out ≡ answer_of operation args out
of_none operation args out a b c d e =
    sym (rw (
      ne_eqb operation 6 a,
      ne_eqb operation 7 b,
      ne_eqb operation 8 c,
      ne_eqb operation 23 d,
      ne_eqb operation 24 e,
    ))
