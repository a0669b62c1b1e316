-- What the promise rules out, of every request: of an accepted replay the frames handed in for those that come out, and
-- the silent ones for the late ones; of a refused one frames that come out, and a stamp that is forgotten; and an
-- answer to another operation. Assumes nothing.
use Rattle.std.specs.Prelude.{◌≡◌, ◌∷◌, ◌%◌, ◌^◌, ◌≤◌}
use Rattle.lists.specs.Prelude.{sym, ap, ◌∙◌, List, [], ℕ, arith, ne_eqb, length}
use Rattle.refusals.proofs.First.{answered_accepted, answered_refused}
use Rattle.big_endian.specs.Bytes.{bytes_of}
use Rattle.big_endian.specs.Fields.{field_at}
use Rattle.big_endian.specs.Lists.{float_bytes}
use Rattle.big_endian.proofs.Bytes.{length_bytes}
use Rattle.stamps.specs.Arrivals.{Expected}
use Rattle.std.specs.Prelude.{Some}
use Rattle.stamps.specs.Arrivals.{stamp_of}
use Rattle.stamps.specs.Counts.{out_in, late_in, silent_in}
use Rattle.replay.specs.Recording.{Recording, stamps_in}
use Rattle.replay.specs.Promise.{ReplayOutcome, outcome, refusal_in, accepted, refused}
use Rattle.probe_request.specs.Requests.{samples_lent}
use Rattle.probe_answer.specs.Answers.{Draft, none}
use Rattle.probe_answer.proofs.Standing.{Told, number_told, taken_told}
use Rattle.probe_hrtf.specs.Requests.{lent_of, Lists, lists_at, state_of}
use Rattle.probe_replay.specs.Requests.{expected_at, line_end, stamps_at, line_of, outcome_at}
use Rattle.probe_replay.specs.Answers.{mark_of, line_shown, line_by, answer_of}

-- where a number stands in an answer
module _ (o : ReplayOutcome) (out : List ℕ) where
  abbrev counts : List (List ℕ)
  counts =
      bytes_of 8 o.answer.silent
      ∷ bytes_of 8 o.answer.resets
      ∷ bytes_of 8 o.answer.desk.position
      ∷ bytes_of 8 o.answer.desk.to_go
      ∷ bytes_of 1 (mark_of o.answer.expected)
      ∷ bytes_of 4 (stamp_of o.answer.expected)
      ∷ float_bytes o.rings
      ∷ float_bytes o.ears
      ∷ []

  samples_told : 9 ≤ length out → Told 1 8 o.answer.samples (line_shown o out)
  unfolding line_shown
  samples_told room =
      number_told 1 8 o.answer.samples (bytes_of 1 o.answer.refusal ∷ [])
      (bytes_of 8 o.answer.unsettled ∷ bytes_of 8 o.answer.late ∷ counts) out
      (omega (arith, length_bytes 1 o.answer.refusal)) (omega arith) room (omega arith)

  late_told : 25 ≤ length out → Told 17 8 o.answer.late (line_shown o out)
  unfolding line_shown
  late_told room =
      number_told 17 8 o.answer.late (bytes_of 1 o.answer.refusal ∷ bytes_of 8 o.answer.samples
      ∷ bytes_of 8 o.answer.unsettled ∷ []) counts out
      (omega (
        arith,
        length_bytes 1 o.answer.refusal,
        length_bytes 8 o.answer.samples,
        length_bytes 8 o.answer.unsettled,
      )) (omega arith) room (omega arith)

  stamp_told : 62 ≤ length out → Told 58 4 (stamp_of o.answer.expected) (line_shown o out)
  unfolding line_shown
  stamp_told room =
      let a = o.answer in
      let before =
      bytes_of 1 a.refusal ∷ bytes_of 8 a.samples ∷ bytes_of 8 a.unsettled ∷ bytes_of 8 a.late
      ∷ bytes_of 8 a.silent ∷ bytes_of 8 a.resets ∷ bytes_of 8 a.desk.position
      ∷ bytes_of 8 a.desk.to_go ∷ bytes_of 1 (mark_of a.expected) ∷ [] in
      number_told 58 4 (stamp_of a.expected) before (float_bytes o.rings ∷ float_bytes o.ears ∷ []) out
      (omega (
        arith,
        length_bytes 1 a.refusal,
        length_bytes 8 a.samples,
        length_bytes 8 a.unsettled,
        length_bytes 8 a.late,
        length_bytes 8 a.silent,
        length_bytes 8 a.resets,
        length_bytes 8 a.desk.position,
        length_bytes 8 a.desk.to_go,
        length_bytes 1 (mark_of a.expected),
      ))
      (omega arith) room (omega arith)

module _ (args out : List ℕ) (r : Draft) (is : r ≡ answer_of 22 args out)
    (long : length args ≡ line_end (lent_of args) (samples_lent args 138)) (room : 62 ≤ length out) where
  abbrev lists : Lists
  lists = lists_at args 153 (lent_of args)

  abbrev line : Recording
  line = line_of args lists (stamps_at args (lent_of args) (samples_lent args 138))

  abbrev x : Expected
  x = expected_at args

  abbrev refusal : ℕ
  refusal = refusal_in line x (state_of args lists) (length lists.ears)

  abbrev o : ReplayOutcome
  o = outcome line x (state_of args lists) lists.ears

  shown : {at count n : ℕ} → Told at count n (line_shown o out) → field_at r.bytes at count ≡ n % 256 ^ count
  unfolding answer_of line_by outcome_at
  shown t = taken_told (line_end (lent_of args) (samples_lent args 138)) args out r is long t

  module _ (fine : refusal ≡ 0) where
    played : o ≡ accepted line x (state_of args lists) lists.ears
    unfolding outcome
    played = answered_accepted _ _ refusal fine

    -- the frames that are handed in are told as those that come out
    frames_for_samples : (out_in x (stamps_in line) % 256 ^ 8 ≡ field_at args 58 8 % 256 ^ 8 → ⊥)
        → field_at r.bytes 1 8 ≡ field_at args 58 8 % 256 ^ 8 → ⊥
    frames_for_samples differs e = differs
        (sym (shown (samples_told o out (omega arith))
        ∙ ap (λ (y : ReplayOutcome). y.answer.samples % 256 ^ 8) played) ∙ e)

    -- the silent frames are told in the place of the late ones
    silent_for_late : (late_in x (stamps_in line) % 256 ^ 8 ≡ silent_in x (stamps_in line) % 256 ^ 8 → ⊥)
        → field_at r.bytes 17 8 ≡ silent_in x (stamps_in line) % 256 ^ 8 → ⊥
    silent_for_late differs e = differs
        (sym (shown (late_told o out (omega arith)) ∙ ap (λ (y : ReplayOutcome). y.answer.late % 256 ^ 8) played)
        ∙ e)

  module _ (bad : refusal ≡ 0 → ⊥) where
    left : o ≡ refused refusal x (state_of args lists) lists.ears
    unfolding outcome
    left = answered_refused _ _ refusal bad

    -- of a refused replay frames that come out are told
    refused_with_a_count : (field_at r.bytes 1 8 ≡ 0 → ⊥) → ⊥
    refused_with_a_count some =
        some (shown (samples_told o out (omega arith)) ∙ ap (λ (y : ReplayOutcome). y.answer.samples % 256 ^ 8) left)

    -- the stamp that was expected is forgotten
    stamp_forgotten : (s : ℕ) → x ≡ Some s → (s % 256 ^ 4 ≡ 0 → ⊥) → field_at r.bytes 58 4 ≡ 0 → ⊥
    stamp_forgotten s known some e =
        some (sym (shown (stamp_told o out room) ∙ ap (λ (y : ReplayOutcome). stamp_of y.answer.expected % 256 ^ 4)
        left ∙ ap (λ (y : Expected). stamp_of y % 256 ^ 4) known) ∙ e)

-- another operation is answered, or the lent bytes are put over
other_answered : (operation : ℕ) (args out : List ℕ) (r : Draft) → r ≡ answer_of operation args out
    → (operation ≡ 22 → ⊥) → (r ≡ none out → ⊥) → ⊥
unfolding answer_of
other_answered operation args out r is other wrong = wrong (is ∙ rw (ne_eqb operation 22 other))
