-- A frame that is encoded before the first cue is silence, and no damage, whatever its sample. Assumes nothing.
use Rattle.std.specs.Prelude.{◌≡◌, ◌∷◌, ◌++◌, ◌+◌, ◌<◌}
use Rattle.lists.specs.Prelude.{refl, sym, ap, ◌∙◌, subst, true, false, List, [], reverse, ℕ, zero, suc}
use Rattle.lists.specs.Prelude.{not-suc-le-zero, le_of_suc-le-suc, add-zero, arith, length, get_or, take, replicate}
use Rattle.lists.specs.Prelude.{length-replicate, get_or-replicate, get_or-take, length-take-le, ext_get_or, Float, nan}
use Rattle.refusals.specs.Refusals.{answered}
use Rattle.formats.specs.Floats.{zero_float}
use Rattle.lists.proofs.Lists.{reverse_replicate, replicate_at}
use Rattle.lists.proofs.Tables.{tab_constant}
use Rattle.checks.specs.Finite.{has_nonfinite}
use Rattle.checks.proofs.Checks.{all_off}
use Rattle.channel.specs.Orders.{channels_of_order}
use Rattle.cues.specs.declared.Cue.{Cue}
use Rattle.cues.specs.Cues.{Voice, nobody, numbers_of, rises, voice_at}
use Rattle.script.specs.Rendering.{samples_of, spoken, rendered}
use Rattle.script.specs.Stretches as Script
use Rattle.script.specs.DrillScript.{Before}
use Rattle.script.proofs.Played.{cues_rise, nobody_before}
use Rattle.hrtf_history.specs.Setup.{Setup}
use Rattle.hrtf_history.specs.Signals.{damaged, silent_frame}
use Rattle.hrtf_history.proofs.Silence.{silence_sound}
use Rattle.hrtf_runs.specs.Demand.{frame_ago, damaged_among}
use Rattle.drills.specs.Drills.{Drill, drill_samples, encoded}

-- frame n of what is rendered is sample n by the voice at its frame number
length_rendered : (cues : List Cue) (order f : ℕ) (xs : List Float) → length (rendered cues order f xs) ≡ length xs
length_rendered cues order f [] = refl
length_rendered cues order f (x ∷ xs) = ap suc (length_rendered cues order (f + 1) xs)

rendered_at : (cues : List Cue) (order f : ℕ) (xs : List Float) (n : ℕ) → n < length xs
    → get_or (rendered cues order f xs) n [] ≡ spoken order (voice_at cues (f + n)) (get_or xs n nan)
rendered_at cues order f [] n h = absurd (not-suc-le-zero h)
rendered_at cues order f (x ∷ xs) zero h = ap (λ (g : ℕ). spoken order (voice_at cues g) x) (sym (add-zero f))
rendered_at cues order f (x ∷ xs) (suc n) h =
    rendered_at cues order (f + 1) xs n (le_of_suc-le-suc h)
    ∙ ap (λ (g : ℕ). spoken order (voice_at cues g) (get_or xs n nan)) further
  where
    further : f + 1 + n ≡ f + suc n
    further = omega arith

length_encoded : (d : Drill) → length (encoded d) ≡ length (drill_samples d)
length_encoded d = length_rendered d.cues d.order _ (drill_samples d)

pub encoded_at : (d : Drill) (n : ℕ) → n < length (encoded d)
    → get_or (encoded d) n [] ≡ spoken d.order (voice_at d.cues (d.first + n)) (get_or (drill_samples d) n nan)
encoded_at d n h = rendered_at d.cues d.order d.first (drill_samples d) n (omega (arith, length_encoded d))

-- ---- nobody speaks

nobody_silent : (u : Setup) (order : ℕ) (x : Float) → u.channels ≡ channels_of_order order
    → spoken order nobody x ≡ silent_frame u
nobody_silent u order x c =
    tab_constant 0 (channels_of_order order) zero_float ∙ ap (λ (n : ℕ). replicate n zero_float) (sym c)

encoded_silent : (u : Setup) (d : Drill) → u.channels ≡ channels_of_order d.order → (n : ℕ) → n < length (encoded d)
    → voice_at d.cues (d.first + n) ≡ nobody → get_or (encoded d) n [] ≡ silent_frame u
encoded_silent u d c n h v = encoded_at d n h ∙ ap (λ (w : Voice). spoken d.order w (get_or (drill_samples d) n nan)) v
    ∙ nobody_silent u d.order (get_or (drill_samples d) n nan) c

module _ (u : Setup) (finite : has_nonfinite u.weights ≡ false) (d : Drill)
    (c : u.channels ≡ channels_of_order d.order) (n : ℕ) (h : n < length (encoded d)) where
  pub silent_sound : voice_at d.cues (d.first + n) ≡ nobody → damaged u (get_or (encoded d) n []) ≡ false
  silent_sound v = ap (damaged u) (encoded_silent u d c n h v) ∙ silence_sound u finite

  -- nor did anybody before: the frame is settled
  module _ (v : (j : ℕ) → j < suc n → voice_at d.cues (d.first + j) ≡ nobody) where
    quiet : take (suc n) (encoded d) ≡ replicate (suc n) (silent_frame u)
    quiet =
        let many : length (take (suc n) (encoded d)) ≡ suc n = length-take-le (suc n) (encoded d) h in
        ext_get_or [] (take (suc n) (encoded d)) (replicate (suc n) (silent_frame u))
        (many ∙ sym (length-replicate (suc n) (silent_frame u)))
        (λ j l. let near : j < suc n = omega (arith, l, many) in
        get_or-take (suc n) (encoded d) j [] near ∙ encoded_silent u d c j (omega (arith, near, h)) (v j near)
        ∙ sym (get_or-replicate (suc n) j (silent_frame u) [] near))

    silent_ago : (k : ℕ) → frame_ago u (encoded d) n k ≡ silent_frame u
    silent_ago k = ap (λ (fs : List (List Float)). get_or (reverse fs) k (silent_frame u)) quiet
        ∙ ap (λ (fs : List (List Float)). get_or fs k (silent_frame u)) (reverse_replicate (suc n) (silent_frame u))
        ∙ replicate_at (suc n) k (silent_frame u)

    pub silent_settled : damaged_among u (encoded d) n ≡ false
    silent_settled = all_off 0 u.L (λ k. damaged u (frame_ago u (encoded d) n k))
        (λ k l. ap (damaged u) (silent_ago (0 + k)) ∙ silence_sound u finite)

-- ---- the first cue

-- where something was encoded a call was accepted, and so the cues rise
module _ (cues : List Cue) (order : ℕ) where
  rise_by : (c : Script.RenderCall) (f n : ℕ) → Script.refusal_at cues order c f ≡ n → (xs : List Float)
      → (0 < length xs → rises (numbers_of cues) ≡ true)
      → 0 < length (Script.fed cues order c f ++ xs) → rises (numbers_of cues) ≡ true
  rise_by c f zero e xs k h = cues_rise (Script.stretch_of cues order c f) cues c.input c.out e
  rise_by c f (suc n) e xs k h = k
      (subst (λ (m : ℕ). 0 < length (answered m (samples_of (Script.stretch_of cues order c f) c.input) (λ j. [])
      ++ xs)) e h)

  some_rise : (f : ℕ) (cs : List Script.RenderCall) → 0 < length (Script.fed_all cues order f cs)
      → rises (numbers_of cues) ≡ true
  some_rise f [] h = absurd (not-suc-le-zero h)
  some_rise f (c ∷ cs) h = rise_by c f (Script.refusal_at cues order c f) refl
      (Script.fed_all cues order (Script.next cues order c f) cs) (some_rise (Script.next cues order c f) cs) h

-- earlier frames are before it too
before_earlier : (cues : List Cue) (f j n : ℕ) → j < suc n → Before cues (f + n) → Before cues (f + j)
before_earlier [] f j n h b = tt
before_earlier (c ∷ cs) f j n h b = omega (arith, h, b)

module _ (d : Drill) (n : ℕ) (h : n < length (encoded d)) (b : Before d.cues (d.first + n)) where
  pub before_nobody : (j : ℕ) → j < suc n → voice_at d.cues (d.first + j) ≡ nobody
  before_nobody j l =
      let some : 0 < length (drill_samples d) = omega (arith, h, length_encoded d) in
      nobody_before d.cues (d.first + j) (some_rise d.cues d.order d.first d.renders some)
      (before_earlier d.cues d.first j n l b)
