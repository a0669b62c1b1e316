-- Answers of another shape, which the promise of `process` refutes: writing nothing, and accepting L frames to go, in
-- every call; and, on drill table 8 and 9 played in one block into any lent planes, refusing always, silence, filtering
-- the first frame and copying on, the left ear's sum for both, stepping the desk before the ears are read, passing the
-- input through, an unsettled count of one's own, and damage judged on the inputs alone. Assumes nothing.
use Rattle.std.specs.Prelude.{◌≡◌, ◌∷◌, ◌<◌}
use Rattle.lists.specs.Prelude.{refl, sym, ap, ◌∙◌, Bool, true, false, true≢false, List, [], ℕ, suc, suc-ne-zero, arith}
use Rattle.lists.specs.Prelude.{get_or, take, replicate, pos, negsuc, Float, nan, inf, fin}
use lib.Ieee.Positive.{positive}
use Rattle.formats.specs.Floats.{zero_float, one_float, half_float}
use Rattle.planes.specs.Planes.{sample_at, with_frames}
use Rattle.hrtf_history.specs.History.{ear_samples, after}
use Rattle.hrtf_history.specs.Drill.{drill}
use Rattle.hrtf_history.proofs.Drill.{drill_8, drill_9}
use Rattle.hrtf_history.proofs.FiniteInputInfiniteSignal.{largest, two, loud_unsettled}
use Rattle.hrtf_rings.specs.State.{State}
use Rattle.hrtf_rings.specs.Held.{held_in, Represents}
use Rattle.hrtf_rings.proofs.Blocks.{fresh, fresh_represents}
use Rattle.hrtf_checks.specs.Call.{BlockCall, setup, frames_in}
use Rattle.hrtf_checks.specs.Refusals.{refusal_of}
use Rattle.hrtf_checks.proofs.Refusing.{waits}
use Rattle.hrtf.specs.Promise.{BlockOutcome, outcome, ProcessPromise}
use Rattle.hrtf.proofs.Meets.{ear_at, ears_over, unsettled_over}
use Rattle.hrtf_runs.proofs.Worked.{block, starts}

-- 1/2 is not 1
is_whole : Float → Bool
is_whole nan = false
is_whole (inf s) = false
is_whole (fin s m (pos n)) = true
is_whole (fin s m (negsuc n)) = false

half≢one : half_float ≡ one_float → ⊥
unfolding is_whole
half≢one e = true≢false (sym (ap is_whole e))

-- the drill's samples in one block
abbrev whole : Float → BlockCall
whole x = block 3 (x ∷ zero_float ∷ zero_float ∷ []) one_float

accepts : (x : Float) → refusal_of (whole x) (fresh drill) ≡ 0
unfolding refusal_of
accepts x = refl

-- ---- accepts a desk that no block leaves

-- L frames to go, in every call and state: a block leaves L - 1 at most
frames_to_go_of_all : (c : BlockCall) (t : State) → t.desk.to_go ≡ c.shape.length → refusal_of c t ≡ 0 → ⊥
frames_to_go_of_all c t all e = omega (arith, all, waits c t e)

-- ---- refuses always

refuses : (o : BlockOutcome) → ProcessPromise (whole one_float) (fresh drill) o → (n : ℕ) → o.answer.refusal ≡ suc n
    → ⊥
unfolding refusal_of outcome
refuses o p n e = suc-ne-zero n (sym e ∙ ap (λ (q : BlockOutcome). q.answer.refusal) p.bits)

-- ---- the ear planes

-- no writing, of every call in every state: the ears unchanged, where one of the lent samples was not already document
-- 01's sum
unwritten : (c : BlockCall) (t : State) (o : BlockOutcome) → ProcessPromise c t o → refusal_of c t ≡ 0 → (ear n : ℕ)
    → ear < 2
    → n < c.frames
    → (sample_at c.ears c.stride ear n ≡ get_or
    (ear_samples (setup c) (after (setup c) (held_in (setup c) t) (take (suc n) (frames_in c)))) ear nan → ⊥)
    → o.ears ≡ c.ears → ⊥
unwritten c t o p e ear n he hn other same =
    other (ap (λ (ys : List Float). sample_at ys c.stride ear n)
    (sym same ∙ ap (λ (q : BlockOutcome). q.ears) p.bits) ∙ ear_at c t e ear n he hn)

-- drill 8 into any six lent cells
module _ (a b c d e f : Float) where
  abbrev into : BlockCall
  into =
      record {
        shape = (whole one_float).shape;
        frames = 3;
        stride = 3;
        inputs = (whole one_float).inputs;
        weights = (whole one_float).weights;
        rows = drill.rows;
        taps = drill.taps;
        ears = a ∷ b ∷ c ∷ d ∷ e ∷ f ∷ [];
      }

  module _ (o : BlockOutcome) (p : ProcessPromise into (fresh drill) o) where
    good : refusal_of into (fresh drill) ≡ 0
    unfolding refusal_of
    good = refl

    -- what an answer has to hold in its ear planes
    ears : o.ears ≡ one_float ∷ half_float ∷ zero_float ∷ zero_float ∷ one_float ∷ zero_float ∷ []
    ears = ears_over into (fresh drill) o p [] starts good ∙ ap (with_frames (a ∷ b ∷ c ∷ d ∷ e ∷ f ∷ []) 3 0) drill_8

    at : (i : ℕ) → get_or o.ears i nan ≡ get_or
        (one_float ∷ half_float ∷ zero_float ∷ zero_float ∷ one_float ∷ zero_float ∷ []) i nan
    at i = ap (λ (l : List Float). get_or l i nan) ears

    -- silence
    silent : o.ears ≡ replicate 6 zero_float → ⊥
    silent q = true≢false (ap (λ (l : List Float). positive (get_or l 0 nan)) (sym ears ∙ q))

    -- the first frame filtered, and copied on: sample 2 equals sample 1, in the left ear or in the right
    copied_left : get_or o.ears 1 nan ≡ get_or o.ears 0 nan → ⊥
    copied_left q = half≢one (sym (at 1) ∙ q ∙ at 0)

    copied_right : get_or o.ears 4 nan ≡ get_or o.ears 3 nan → ⊥
    copied_right q = true≢false (ap positive (sym (at 4) ∙ q ∙ at 3))

    -- the left ear's part in the right ear's sum: both ears hear the same
    ears_alike : get_or o.ears 3 nan ≡ get_or o.ears 0 nan → ⊥
    ears_alike q = true≢false (ap positive (sym (at 0) ∙ sym q ∙ at 3))

    -- the desk stepped before the ears are read: the newest sample meets the second tap
    stepped_early : get_or o.ears 0 nan ≡ half_float → ⊥
    stepped_early q = half≢one (sym q ∙ at 0)

    -- the input passed through, to the left ear or to the right
    passed_left : ((n : ℕ) → n < 3 → sample_at o.ears 3 0 n ≡ get_or into.inputs n nan) → ⊥
    passed_left q = true≢false (ap positive (sym (at 1) ∙ q 1 (omega arith)))

    passed_right : ((n : ℕ) → n < 3 → sample_at o.ears 3 1 n ≡ get_or into.inputs n nan) → ⊥
    passed_right q = true≢false (ap positive (sym (at 4) ∙ q 1 (omega arith)))

-- ---- an invented count

count_is : (o : BlockOutcome) → ProcessPromise (whole nan) (fresh drill) o → o.answer.unsettled ≡ 2
count_is o p = unsettled_over (whole nan) (fresh drill) o p [] starts (accepts nan) ∙ drill_9

invented : (o : BlockOutcome) → ProcessPromise (whole nan) (fresh drill) o → (n : ℕ) → (n ≡ 2 → ⊥)
    → o.answer.unsettled ≡ n
    → ⊥
invented o p n other e = other (sym e ∙ count_is o p)

-- ---- damage judged on the inputs

-- the block of a finite sample, whose signal narrows to an infinite one
loud : BlockCall
loud = block 1 (largest ∷ []) two

loud_starts : Represents (setup loud) [] (fresh drill)
unfolding loud
loud_starts = fresh_represents (setup loud) (omega arith)

loud_accepted : refusal_of loud (fresh drill) ≡ 0
unfolding refusal_of loud
loud_accepted = refl

-- a count that looks at the inputs alone
inputs_only : (o : BlockOutcome) → ProcessPromise loud (fresh drill) o → o.answer.unsettled ≡ 0 → ⊥
unfolding loud
inputs_only o p e =
    suc-ne-zero 0 (sym (unsettled_over loud (fresh drill) o p [] loud_starts loud_accepted ∙ loud_unsettled) ∙ e)
