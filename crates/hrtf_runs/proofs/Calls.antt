-- One call, accepted or refused, and calls one after another: what is sounded, counted and left is what the frames that
-- were fed give, one by one. Assumes nothing.
use Rattle.std.specs.Prelude.{◌≡◌, ◌∷◌, ◌++◌, ◌+◌}
use Rattle.lists.specs.Prelude.{refl, sym, ap, ◌∙◌, subst, List, [], ℕ, zero, suc, Bool, length, Float}
use Rattle.lists.specs.Calls.{of_each_call}
use Rattle.lists.specs.Tables.{count}
use Rattle.lists.proofs.Tables.{length_tab}
use Rattle.planes.specs.Planes.{frame_at, frames_of}
use Rattle.hrtf_history.specs.Setup.{Setup, SameFilters}
use Rattle.hrtf_history.specs.History.{unsettled_each, after, flagged_counts}
use Rattle.hrtf_history.proofs.Pieces.{heard_read, length_each, each_append, Told, told_append}
use Rattle.hrtf_rings.specs.State.{State}
use Rattle.hrtf_rings.specs.Held.{held_in, Represents}
use Rattle.hrtf_rings.specs.Computed.{state_left, played_by_rings, unsettled_count_by_desk}
use Rattle.hrtf_rings.proofs.Blocks.{played_held, counted_told, left_kept, played_append, left_append, counted_append}
use Rattle.hrtf_rings.proofs.Filters.{played_alike, left_alike, counted_alike}
use Rattle.hrtf_checks.specs.Call.{BlockCall, setup, frames_in}
use Rattle.hrtf_checks.specs.Refusals.{refusal_of}
use Rattle.hrtf_checks.proofs.Refusing.{ears_fit, ready}
use Rattle.hrtf.specs.Promise.{BlockOutcome, outcome_by, outcome, state_after}
use Rattle.hrtf.proofs.Meets.{outcome_by_lem, outcome_computed}
use Rattle.hrtf.specs.Computed.{block_computed}
use Rattle.hrtf_runs.specs.Runs.{next, fed_by, fed, sounded, CallsAlike, fed_all, sounded_all, end, unsettled_counts}
use Rattle.hrtf_runs.specs.Runs.{sum_of_counts}

-- ---- one call

record Called (u : Setup) (t : State) (c : BlockCall) : Type 0 where
  pub sounds : sounded c t ≡ played_by_rings u t (fed c t)
  pub counts : (outcome c t).answer.unsettled ≡ unsettled_count_by_desk u t (fed c t)
  pub leaves : next c t ≡ state_left u t (fed c t)

called_by : (u : Setup) (t : State) (c : BlockCall) → (refusal_of c t ≡ 0 → SameFilters (setup c) u) → (k : ℕ)
    → refusal_of c t ≡ k → Called u t c
called_by u t c same zero e =
    record {
      sounds =
          ap (λ (o : BlockOutcome). frames_of o.ears c.stride 2 o.answer.samples) (outcome_by_lem c t 0 e)
          ∙ heard_read (setup c) (held_in (setup c) t) (frames_in c) c.ears c.stride c.frames
          (length_tab 0 c.frames (frame_at c.inputs c.stride c.shape.channels))
          (ears_fit c t e).0 (ears_fit c t e).1
          ∙ sym (played_held (setup c) t (frames_in c) (ready c t e).ringed (ready c t e).within)
          ∙ played_alike (setup c) u (same e) t (frames_in c)
          ∙ ap (played_by_rings u t) (sym fs);
      counts = ap (λ (o : BlockOutcome). o.answer.unsettled) made ∙ counted_alike (setup c) u (same e) t (frames_in c)
          ∙ ap (unsettled_count_by_desk u t) (sym fs);
      leaves = ap state_after made ∙ left_alike (setup c) u (same e) t (frames_in c) ∙ ap (state_left u t) (sym fs);
    }
  where
    made : outcome c t ≡ block_computed c t
    made = outcome_computed c t e

    fs : fed c t ≡ frames_in c
    fs = ap (λ (n : ℕ). fed_by n (frames_in c)) e
called_by u t c same (suc k) e =
    record {
      sounds = ap (λ (o : BlockOutcome). frames_of o.ears c.stride 2 o.answer.samples) made
          ∙ ap (played_by_rings u t) (sym fs);
      counts = ap (λ (o : BlockOutcome). o.answer.unsettled) made ∙ ap (unsettled_count_by_desk u t) (sym fs);
      leaves = ap state_after made ∙ ap (state_left u t) (sym fs);
    }
  where
    made : outcome c t ≡ outcome_by (suc k) c t
    made = outcome_by_lem c t (suc k) e

    fs : fed c t ≡ []
    fs = ap (λ (n : ℕ). fed_by n (frames_in c)) e

called : (u : Setup) (t : State) (c : BlockCall) → (refusal_of c t ≡ 0 → SameFilters (setup c) u) → Called u t c
called u t c same = called_by u t c same (refusal_of c t) refl

-- ---- calls one after another

module _ (u : Setup) where
  pub all_sounded : (t : State) (cs : List BlockCall) → CallsAlike u t cs
      → sounded_all t cs ≡ played_by_rings u t (fed_all t cs)
  all_sounded t [] a = refl
  all_sounded t (c ∷ cs) a =
      let w = called u t c a.0 in
      ap (λ (l : List (List Float)). l ++ sounded_all (next c t) cs) w.sounds
      ∙ ap (λ (l : List (List Float)). played_by_rings u t (fed c t) ++ l)
      (all_sounded (next c t) cs a.1 ∙ ap (λ (s : State). played_by_rings u s (fed_all (next c t) cs)) w.leaves)
      ∙ sym (played_append u t (fed c t) (fed_all (next c t) cs))

  pub all_left : (t : State) (cs : List BlockCall) → CallsAlike u t cs → end t cs ≡ state_left u t (fed_all t cs)
  all_left t [] a = refl
  all_left t (c ∷ cs) a =
      let w = called u t c a.0 in
      all_left (next c t) cs a.1 ∙ ap (λ (s : State). state_left u s (fed_all (next c t) cs)) w.leaves
      ∙ sym (left_append u t (fed c t) (fed_all (next c t) cs))

  pub all_counted : (t : State) (cs : List BlockCall) → CallsAlike u t cs
      → sum_of_counts (unsettled_counts t cs) ≡ unsettled_count_by_desk u t (fed_all t cs)
  all_counted t [] a = refl
  all_counted t (c ∷ cs) a =
      let w = called u t c a.0 in
      ap (λ (n : ℕ). n + sum_of_counts (unsettled_counts (next c t) cs)) w.counts
      ∙ ap (λ (n : ℕ). unsettled_count_by_desk u t (fed c t) + n)
      (all_counted (next c t) cs a.1 ∙ ap (λ (s : State). unsettled_count_by_desk u s (fed_all (next c t) cs))
      w.leaves)
      ∙ sym (counted_append u t (fed c t) (fed_all (next c t) cs))

  -- each call's count, over a past that rings and desk stand for, where a rule tells which frames are unsettled
  pub all_flagged : (flag : ℕ → Bool) (n : ℕ) (past : List (List Float)) (t : State) (cs : List BlockCall)
      → Represents u past t → CallsAlike u t cs → Told flag n (unsettled_each u 0 past (fed_all t cs))
      → unsettled_counts t cs ≡ flagged_counts flag n (of_each_call next (λ c t. length (fed c t)) t cs)
  all_flagged flag n past t [] r a e = refl
  all_flagged flag n past t (c ∷ cs) r a e =
      let w = called u t c a.0 in
      let fs = fed c t in
      let parts = told_append flag n (length fs) (unsettled_each u 0 past fs) _ (length_each u 0 past fs)
      (subst (Told flag n) (each_append u 0 past fs (fed_all (next c t) cs)) e) in
      cc (
        w.counts ∙ counted_told u past t r fs ∙ ap count parts.0,
        all_flagged flag (n + length fs) (after u past fs) (next c t) cs
            (subst (Represents u (after u past fs)) (sym w.leaves) (left_kept u past t r fs)) a.1 parts.1,
      )
