-- Answers of the same shape that the promise of `replay` refutes, on the worked recording and on small ones: a gap
-- counted as a late frame, a late frame that is played, what was expected given back, a reset that keeps the history or
-- the frames to go, the last sample held for the missing ones, silence that is always settled, damage by a late frame,
-- as many frames as there is room for, and 7 before 5. Assumes nothing.
use Rattle.std.specs.Prelude.{◌≡◌, ◌∷◌}
use Rattle.lists.specs.Prelude.{refl, sym, ap, ◌∙◌, false, List, [], ℕ, arith, pos, negsuc, get_or, length, Float, nan}
use Rattle.lists.specs.Prelude.{inf, fin, add, mul, div, round, size, span, climb, units, odd, of_int}
use lib.Ieee as ieee
use Rattle.formats.specs.Floats.{zero_float, one_float, half_float, float}
use Rattle.numbers.specs.Computed.{rounded, root_of, root_units, whole_root, root_in}
use Rattle.planes.specs.Planes.{frames_of}
use Rattle.planes.specs.Sums.{mixed}
use Rattle.numbers.specs.Normalization.{inverse_root_of}
use Rattle.hrtf_history.specs.History.{ear_of}
use Rattle.hrtf_history.specs.Drill.{drill}
use Rattle.hrtf_rings.proofs.Blocks.{fresh}
use Rattle.stamps.specs.Arrivals.{Expected}
use Rattle.std.specs.Prelude.{None, Some}
use Rattle.stamps.specs.Arrivals.{coming_by}
use Rattle.replay.specs.Recording.{Recording, events_in}
use Rattle.replay.specs.Heard.{heard_by, unsettled_by}
use Rattle.replay.specs.Promise.{refusal_in, ReplayOutcome, ReplayPromise}
use Rattle.replay.proofs.Hearing.{played_by_heard, counted_by_told}
use Rattle.replay.proofs.Meets.{outcome_by_lem, outcome_computed, ears_read}
use Rattle.hrtf_runs.proofs.Worked.{starts}
use Rattle.replays.proofs.Worked.{line, whole, planes, pair, eight_short, sounds, told}

-- how many units a float has, or none
units_of_of : Float → ℕ
units_of_of nan = 0
units_of_of (inf s) = 0
units_of_of (fin s m e) = m

-- how many stamps are expected
known : Expected → ℕ
known None = 0
known (Some s) = 1

-- ---- on the worked recording

module _ (o : ReplayOutcome) (p : ReplayPromise (whole 9) None (fresh drill) (planes 9) o) where
  -- a gap that resets counted as a late frame
  gap_as_late : o.answer.late ≡ 2 → ⊥
  gap_as_late e = omega (arith, e, (told o p).1.0)

  -- the silent frames counted as late ones too
  silence_as_late : o.answer.late ≡ 3 → ⊥
  silence_as_late e = omega (arith, e, (told o p).1.0)

  -- a late frame that is played as it comes
  late_played : o.answer.samples ≡ 10 → ⊥
  late_played e = omega (arith, e, (told o p).0)

  -- silent frames that are not counted
  silence_uncounted : o.answer.silent ≡ 0 → ⊥
  silence_uncounted e = omega (arith, e, (told o p).1.1.0)

  -- what was expected given back
  first_again : o.answer.expected ≡ None → ⊥
  unfolding known
  first_again e = omega (arith, ap known (sym e ∙ (told o p).1.1.1.1))

  -- a reset that keeps the rings: 10 is heard of the 8 and the 4 before the gap
  rings_kept : get_or (frames_of o.ears 9 2 o.answer.samples) 7 [] ≡ pair (float (pos 10)) (float (pos 4)) → ⊥
  unfolding units_of_of of_int
  rings_kept e = absurd (off (ap (λ (fs : List (List Float)). get_or fs 7 []) (sym (sounds o p)) ∙ e))
    where
      off : pair (float (pos 8)) zero_float ≡ pair (float (pos 10)) (float (pos 4)) → ⊥
      off q = omega (arith, ap (λ (l : List Float). units_of_of (get_or l 0 nan)) q)

-- room for eight of nine frames: as many as there is room for
as_many_as_fit : (o : ReplayOutcome) → ReplayPromise (whole 8) None (fresh drill) (planes 8) o → o.answer.refusal ≡ 0
    → ⊥
as_many_as_fit o p e = omega (
  arith,
  e,
  ap (λ (q : ReplayOutcome). q.answer.refusal)
      (p.bits ∙ outcome_by_lem (whole 8) None (fresh drill) (planes 8) 5 eight_short),
)

-- a weight that is NaN and room for eight: 5 comes before 7
abbrev unfit : Recording
unfit = record {
  shape = (whole 8).shape;
  frames = 8;
  stride = 8;
  stamps = (whole 8).stamps;
  inputs = (whole 8).inputs;
  weights = nan ∷ [];
  rows = drill.rows;
  taps = drill.taps;
  ear_stride = 8;
}

seven_first : (o : ReplayOutcome) → ReplayPromise unfit None (fresh drill) (planes 8) o → o.answer.refusal ≡ 7 → ⊥
unfolding refusal_in coming_by of_int
seven_first o p e = omega (
  arith,
  e,
  ap (λ (q : ReplayOutcome). q.answer.refusal)
      (p.bits ∙ outcome_by_lem unfit None (fresh drill) (planes 8) 5 refl),
)

-- ---- on small ones

-- two frames with these stamps and samples
abbrev two : ℕ → ℕ → Float → Float → ℕ → Recording
two s r x y room = line 2 (s ∷ r ∷ []) (x ∷ y ∷ []) room

-- the unsettled count of two frames from rest that are not refused
count_of : (s r : ℕ) (x y : Float) (room : ℕ) (o : ReplayOutcome)
    → ReplayPromise (two s r x y room) None (fresh drill) (planes room) o
    → refusal_in (two s r x y room) None (fresh drill) (length (planes room)) ≡ 0
    → o.answer.unsettled ≡ unsettled_by drill 0 [] (events_in (two s r x y room) None)
count_of s r x y room o p e =
    ap (λ (q : ReplayOutcome). q.answer.unsettled)
    (p.bits ∙ outcome_computed (two s r x y room) None (fresh drill) (planes room) e)
    ∙ counted_by_told drill [] (fresh drill) starts (events_in (two s r x y room) None)

-- 0 with a NaN, then 3: the silent frame behind the NaN is unsettled too
silence_settled : (o : ReplayOutcome) → ReplayPromise (two 0 3 nan one_float 4) None (fresh drill) (planes 4) o
    → o.answer.unsettled ≡ 1 → ⊥
unfolding refusal_in coming_by mixed rounded add mul ieee.sum round size span climb units odd of_int
silence_settled o p e = omega (arith, e, count_of 0 3 nan one_float 4 o p refl)

-- 5, then 4 with a NaN: a late frame is not looked at
late_damage : (o : ReplayOutcome) → ReplayPromise (two 5 4 one_float nan 1) None (fresh drill) (planes 1) o
    → o.answer.unsettled ≡ 1 → ⊥
unfolding refusal_in coming_by mixed rounded add mul ieee.sum round size span climb units odd of_int
late_damage o p e = omega (arith, e, count_of 5 4 one_float nan 1 o p refl)

-- 0 with a NaN, then 5000: a reset leaves no frames to go
to_go_kept : (o : ReplayOutcome) → ReplayPromise (two 0 5000 nan one_float 2) None (fresh drill) (planes 2) o
    → o.answer.unsettled ≡ 2 → ⊥
unfolding refusal_in coming_by mixed rounded add mul ieee.sum round size span climb units odd of_int
to_go_kept o p e = omega (arith, e, count_of 0 5000 nan one_float 2 o p refl)

-- 0, then 2, with the samples 1 and 1: behind the 1 a half is heard of it, and not another 1
held_is : heard_by drill [] (events_in (two 0 2 one_float one_float 3) None) ≡ pair one_float zero_float
    ∷ pair half_float one_float ∷ pair one_float zero_float ∷ []
unfolding coming_by mixed ear_of inverse_root_of root_of root_units whole_root root_in rounded add mul div ieee.sum
    round size
    span climb units odd of_int
held_is = refl

three_fit : refusal_in (two 0 2 one_float one_float 3) None (fresh drill) 6 ≡ 0
unfolding refusal_in coming_by of_int
three_fit = refl

-- the last sample held for the missing one: 3/2
last_held : (o : ReplayOutcome) → ReplayPromise (two 0 2 one_float one_float 3) None (fresh drill) (planes 3) o
    → get_or (frames_of o.ears 3 2 o.answer.samples) 1 [] ≡ pair (fin false 3 (negsuc 0)) one_float → ⊥
unfolding units_of_of
last_held o p e =
    absurd (off (ap (λ (fs : List (List Float)). get_or fs 1 [])
    (sym (ap (λ (q : ReplayOutcome). frames_of q.ears 3 2 q.answer.samples) p.bits
    ∙ ears_read (two 0 2 one_float one_float 3) None (fresh drill) (planes 3) three_fit
    ∙ played_by_heard drill [] (fresh drill) starts (events_in (two 0 2 one_float one_float 3) None)
    ∙ held_is)) ∙ e))
  where
    off : pair half_float one_float ≡ pair (fin false 3 (negsuc 0)) one_float → ⊥
    off q = omega (arith, ap (λ (l : List Float). units_of_of (get_or l 0 nan)) q)
