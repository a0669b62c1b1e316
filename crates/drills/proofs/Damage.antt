-- A NaN in one channel damages a frame at all weights, since every sum over it is NaN; and so does a sample whose
-- product with the gain of a channel is NaN. Assumes nothing.
use Rattle.std.specs.Prelude.{◌≡◌, ◌||◌, ◌∷◌, ◌++◌, ◌+◌, ◌*◌, ◌<◌}
use Rattle.lists.specs.Prelude.{refl, sym, ap, ◌∙◌, subst, true, not, List, [], ℕ, zero, suc, not-suc-le-zero, zero-add}
use Rattle.lists.specs.Prelude.{arith, length, get_or, Float, nan, binary32, mul}
use lib.Ieee.Scale.{finite}
use Rattle.lists.specs.Tables.{tab, chunk}
use Rattle.lists.proofs.Tables.{length_tab, get_or_tab, length_chunk}
use Rattle.checks.specs.Finite.{has_nonfinite}
use Rattle.channel.specs.Orders.{channels_of_order}
use Rattle.planes.proofs.Sums.{mixed_nan}
use Rattle.harmonics.specs.declared.Direction.{Direction}
use Rattle.cues.specs.Cues.{Voice, speaking, voice_at}
use Rattle.script.specs.Rendering.{spoken}
use Rattle.hrtf_history.specs.Setup.{Setup, SameFilters}
use Rattle.hrtf_history.specs.Signals.{signal, damaged}
use Rattle.hrtf_rings.specs.State.{State}
use Rattle.hrtf_checks.specs.Call.{BlockCall, setup, frames_in}
use Rattle.hrtf_checks.specs.Refusals.{refusal_of}
use Rattle.hrtf_checks.proofs.Refusing.{some_speakers, weighed}
use Rattle.hrtf_runs.specs.Runs.{next, fed_by, CallsAlike, fed_all}
use Rattle.drills.specs.Drills.{Drill, drill_samples, encoded, fed}
use Rattle.drills.specs.Demand.{gains_at}
use Rattle.drills.proofs.Silence.{encoded_at}

-- ---- a frame

first_nan : (n : ℕ) (f : ℕ → Float) → 0 < n → f 0 ≡ nan → has_nonfinite (tab 0 n f) ≡ true
first_nan zero f h e = absurd (not-suc-le-zero h)
first_nan (suc n) f h e = ap (λ (x : Float). not (finite x) || has_nonfinite (tab 1 n f)) e

channel_damages : (u : Setup) → 0 < u.speakers → length u.weights ≡ u.speakers * u.channels
    → (f : List Float) (c : ℕ) → c < u.channels → c < length f → get_or f c nan ≡ nan → damaged u f ≡ true
channel_damages u some weighed f c hc hf e =
    first_nan u.speakers (λ s. signal u s f) some
    (mixed_nan (chunk u.channels 0 u.weights) f c hf
    (subst (λ (n : ℕ). c < n) (sym (length_chunk u.channels 0 u.speakers u.weights some weighed)) hc) e)

-- ---- a run that is fed something has speakers, and weights for all of them

abbrev Weighed : Setup → Type 0
Weighed u = (0 < u.speakers) × (length u.weights ≡ u.speakers * u.channels)

weighed_by : (u : Setup) (c : BlockCall) (t : State) → (refusal_of c t ≡ 0 → SameFilters (setup c) u) → (n : ℕ)
    → refusal_of c t ≡ n → (fs : List (List Float)) → (0 < length fs → Weighed u)
    → 0 < length (fed_by (refusal_of c t) (frames_in c) ++ fs) → Weighed u
weighed_by u c t a zero e fs k h =
    let same = a e in (
      subst (λ (n : ℕ). 0 < n) same.speakers (some_speakers c t e),
      sym (ap length same.weights) ∙ weighed c t e ∙ (λ i. same.speakers i * same.channels i),
    )
weighed_by u c t a (suc n) e fs k h = k (subst (λ (m : ℕ). 0 < length (fed_by m (frames_in c) ++ fs)) e h)

some_weighed : (u : Setup) (t : State) (cs : List BlockCall) → CallsAlike u t cs → 0 < length (fed_all t cs) → Weighed u
some_weighed u t [] a h = absurd (not-suc-le-zero h)
some_weighed u t (c ∷ cs) a h =
    weighed_by u c t a.0 (refusal_of c t) refl (fed_all (next c t) cs) (some_weighed u (next c t) cs a.1) h

-- ---- a drill

module _ (u : Setup) (d : Drill) (a : CallsAlike u d.start d.plays)
    (channels : u.channels ≡ channels_of_order d.order) (is : fed d ≡ encoded d) where
  pub product_damages : (n : ℕ) → n < length (encoded d) → (v : Direction)
      → voice_at d.cues (d.first + n) ≡ speaking v → (p : ℕ) → p < channels_of_order d.order
      → mul binary32 (get_or (drill_samples d) n nan) (get_or (gains_at d.order v) p nan) ≡ nan
      → damaged u (get_or (encoded d) n []) ≡ true
  product_damages n l v at p c e =
      ap (damaged u) frame
      ∙ channel_damages u some.0 some.1 (tab 0 planes product) p (subst (λ (m : ℕ). p < m) (sym channels) c)
      (subst (λ (m : ℕ). p < m) (sym (length_tab 0 planes product)) c) there
    where
      planes : ℕ
      planes = channels_of_order d.order

      product : ℕ → Float
      product q = mul binary32 (get_or (drill_samples d) n nan) (get_or (gains_at d.order v) q nan)

      frame : get_or (encoded d) n [] ≡ tab 0 planes product
      frame = encoded_at d n l ∙ ap (λ (w : Voice). spoken d.order w (get_or (drill_samples d) n nan)) at

      some : Weighed u
      some = some_weighed u d.start d.plays a
          (subst (λ (fs : List (List Float)). 0 < length fs) (sym is) (omega (arith, l)))

      there : get_or (tab 0 planes product) p nan ≡ nan
      there = get_or_tab 0 planes product p nan c ∙ ap product (zero-add p) ∙ e
