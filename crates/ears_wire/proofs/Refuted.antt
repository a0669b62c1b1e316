-- What the promises rule out: samples that are lost, whatever they are, where a list is too short; a count that starts
-- again or stays early; a rest that is not moved; and lines of other bytes. Assumes nothing.
use Rattle.std.specs.Prelude.{◌≡◌, ◌∷◌, ◌++◌, ◌*◌, ◌-◌, ◌^◌, ◌≤◌, ◌<◌}
use Rattle.lists.specs.Prelude.{sym, ap, ◌∙◌, true, List, [], ℕ, arith, lit<, length, get_or, take, drop, get_or-append}
use Rattle.lists.specs.Prelude.{Float}
use Rattle.lists.specs.Placed.{placed}
use Rattle.lists.proofs.Placed.{placed_start}
use Rattle.lists.proofs.Tests.{test_cases}
use Rattle.checks.specs.Lengths.{unfit}
use Rattle.ears_wire.specs.Records.{whole_in_of}
use Rattle.ears_wire.specs.Counting.{counted_on}
use Rattle.ears_wire.specs.Line.{frames_line, refused_line, refused_at_line}
use Rattle.ears_wire.specs.Promise.{FramesTaken, frames_taken, EarsGiven, ears_given, LineGiven, Lined}
use Rattle.ears_wire.proofs.Drill.{three_frames, refused_nine, refused_fourteen}
use Rattle.ears_wire.proofs.Meets.{taken_refused, given_unfit, given_short, line_accepted}

-- planes that have no room are accepted
frames_lost : (bytes : List ℕ) (stride : ℕ) (inputs : List Float) (r : FramesTaken)
    → unfit (length inputs) 6 stride (whole_in_of 24 bytes) ≡ true
    → r ≡ frames_taken bytes stride inputs → r.answer.refusal ≡ 0 → ⊥
frames_lost bytes stride inputs r e is z =
    omega (arith, z, ap (λ (t : FramesTaken). t.answer.refusal) (is ∙ taken_refused bytes stride inputs e))

-- a list that has no room is accepted
ears_lost : (ears : List Float) (stride frames : ℕ) (out : List ℕ) (r : EarsGiven) → length out < frames * 8
    → r ≡ ears_given ears stride frames out → r.answer.refusal ≡ 0 → ⊥
ears_lost ears stride frames out r h is z = test_cases (unfit (length ears) 2 stride frames)
    (λ e. five (given_unfit ears stride frames out e))
    (λ e. five (given_short ears stride frames out e (omega arith)))
  where
    five : ears_given ears stride frames out ≡ record { answer = record { refusal = 5; bytes = 0 }; out = out } → ⊥
    five e = omega (arith, z, ap (λ (t : EarsGiven). t.answer.refusal) (is ∙ e))

-- the largest count and one more is none
count_wraps : (n : ℕ) → n ≡ counted_on (2 ^ 64 - 1) 1 → n ≡ 0 → ⊥
count_wraps n e z = omega (arith, e, z)

-- one more than 2^63 - 1, told as 2^63 - 1
count_stays_early : (n : ℕ) → n ≡ counted_on (2 ^ 63 - 1) 1 → n ≡ 2 ^ 63 - 1 → ⊥
count_stays_early n e z = omega (arith, e, z)

-- ---- the rest, and the lines

-- the bytes of a record that is not whole yet, left where they stood
rest_not_moved : (after : List ℕ) → after ≡ placed (1 ∷ 2 ∷ []) 0 (drop 1 (take 2 (1 ∷ 2 ∷ []))) → after ≡ 1 ∷ 2 ∷ []
    → ⊥
unfolding placed
rest_not_moved after e z =
    let same : ◌≡◌ {A = ℕ} 1 2 = ap (λ (l : List ℕ). get_or l 0 0) (sym z ∙ e) in omega (arith, same)

-- a line that is known, and has room, stands at the start of its list
known_byte : (out line known : List ℕ) (size : ℕ) (after : List ℕ) → line ≡ known → Lined out line size after
    → 64 ≤ length out → (i : ℕ) → i < length known → get_or after i 0 ≡ get_or known i 0
known_byte out line known size after is put room i h =
    ap (λ (l : List ℕ). get_or l i 0) (ap (λ (g : LineGiven). g.out) (put ∙ line_accepted out line room)
    ∙ placed_start out line ∙ ap (λ (l : List ℕ). l ++ drop (length l) out) is)
    ∙ get_or-append known (drop (length known) out) 0 i h

module _ (out : List ℕ) (size : ℕ) (after : List ℕ) (room : 64 ≤ length out) where
  -- `frames 3 unsettled 2` with a blank in the place of the newline
  no_newline : Lined out (frames_line 3 2) size after → get_or after 20 0 ≡ 32 → ⊥
  no_newline put e = omega (arith, e, known_byte out _ _ size after three_frames put room 20 (lit< tt))

  -- `frames 3 unsettled 2` with the frames told as unsettled
  frames_for_unsettled : Lined out (frames_line 3 2) size after → get_or after 19 0 ≡ 51 → ⊥
  frames_for_unsettled put e = omega (arith, e, known_byte out _ _ size after three_frames put room 19 (lit< tt))

  -- 9 told as 5
  refused_by_another_number : Lined out (refused_line 9) size after → get_or after 8 0 ≡ 53 → ⊥
  refused_by_another_number put e = omega (arith, e, known_byte out _ _ size after refused_nine put room 8 (lit< tt))

  -- 14 at 1 with place and number exchanged: `refused 1 at 14`, which has a blank where the 4 should stand
  place_for_the_number : Lined out (refused_at_line 14 1) size after → get_or after 9 0 ≡ 32 → ⊥
  place_for_the_number put e = omega (arith, e, known_byte out _ _ size after refused_fourteen put room 9 (lit< tt))

  -- 14 at 1 with no place told: the line ends behind the number
  no_place : Lined out (refused_at_line 14 1) size after → get_or after 10 0 ≡ 10 → ⊥
  no_place put e = omega (arith, e, known_byte out _ _ size after refused_fourteen put room 10 (lit< tt))
