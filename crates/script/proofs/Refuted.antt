-- Wrong ways to answer, each held against the promise. Assumes nothing.
use Rattle.std.specs.Prelude.{◌≡◌, ◌∷◌, ◌+◌, ◌<◌}
use Rattle.lists.specs.Prelude.{refl, sym, ap, ◌∙◌, Bool, true, false, true≢false, List, [], ℕ, arith, lit<, pos}
use Rattle.lists.specs.Prelude.{get_or, replicate, Float, nan, inf, fin}
use lib.Ieee.Positive.{positive}
use Rattle.formats.specs.Floats.{zero_float, minus_one_float}
use Rattle.channel.specs.Orders.{channels_of_order}
use Rattle.planes.specs.Planes.{sample_at}
use Rattle.harmonics.specs.Drill.{at}
use Rattle.cues.specs.declared.Cue.{Cue}
use Rattle.cues.specs.Cues.{voice_at}
use Rattle.script.specs.Rendering.{Stretch, spoken}
use Rattle.script.specs.Promise.{Rendered, RenderPromise}
use Rattle.script.proofs.Played.{refusal_is, refused_unchanged, all_counted, every_frame, before_the_first}
use Rattle.script.proofs.Worked.{cue, cues, samples, worked, asked, level, wrong, equal_frames, level_257}
use Rattle.script.proofs.Worked.{unreached}

-- ---- before the first cue it plays the sample times 0.0: one frame of order 1, over planes that hold 0
abbrev one_frame : Stretch
one_frame = record { order = 1; first = 0; frames = 1; stride = 1 }

abbrev zeros : List Float
zeros = replicate 4 zero_float

abbrev is_nan : Float → Bool
is_nan nan = true
is_nan (inf s) = false
is_nan (fin s m e) = false

abbrev is_minus : Float → Bool
is_minus nan = false
is_minus (inf s) = s
is_minus (fin s m e) = s

-- a NaN for a NaN
nan_before_the_first : (x : Float) (y z : Float) → RenderPromise one_frame [] (x ∷ []) zeros
    (record { refusal = 0; samples = 1 }) (nan ∷ y ∷ z ∷ nan ∷ []) → ⊥
nan_before_the_first x y z p =
    let e : nan ≡ zero_float = before_the_first one_frame [] (x ∷ []) zeros (record { refusal = 0; samples = 1 })
    (nan ∷ y ∷ z ∷ nan ∷ []) p refl 0 0 (lit< tt) (lit< tt) tt in
    true≢false (ap is_nan e)

-- -0.0 for -1.0
minus_zero_before_the_first : (w x y : Float) → RenderPromise one_frame [] (minus_one_float ∷ []) zeros
    (record { refusal = 0; samples = 1 }) (w ∷ x ∷ y ∷ fin true 0 (pos 0) ∷ []) → ⊥
minus_zero_before_the_first w x y p =
    let e : fin true 0 (pos 0) ≡ zero_float = before_the_first one_frame [] (minus_one_float ∷ []) zeros
    (record { refusal = 0; samples = 1 }) (w ∷ x ∷ y ∷ fin true 0 (pos 0) ∷ []) p refl 0 3 (lit< tt)
    (lit< tt) tt in
    true≢false (ap is_minus e)

-- ---- it counts the cues before it looks at their order: 257 cues at one frame are 11
twelve_first : (n : ℕ) (after : List Float) → RenderPromise (asked 0 8) (level 2 257) (replicate 8 nan)
    (replicate 32 nan)
    (record { refusal = 12; samples = n }) after → ⊥
twelve_first n after p =
    let e : ◌≡◌ {A = ℕ} 12 11 = refusal_is (asked 0 8) (level 2 257) (replicate 8 nan) (replicate 32 nan)
    (record { refusal = 12; samples = n }) after p ∙ level_257 in
    omega (arith, e)

-- ---- it judges the cues in use alone: one at azimuth 181 that the stretch does not reach is 3
in_use_alone : (n : ℕ) (after : List Float) → RenderPromise (asked 0 8) (cue 2 (at 0 0) ∷ wrong ∷ []) (replicate 8 nan)
    (replicate 32 nan) (record { refusal = 0; samples = n }) after → ⊥
in_use_alone n after p =
    let e : ◌≡◌ {A = ℕ} 0 3 = refusal_is (asked 0 8) (cue 2 (at 0 0) ∷ wrong ∷ []) (replicate 8 nan) (replicate 32 nan)
    (record { refusal = 0; samples = n }) after p ∙ unreached in
    omega (arith, e)

-- ---- it takes equal frames
equal_frames_played : (n : ℕ) (after : List Float) → RenderPromise (asked 0 8) (level 2 2) (replicate 8 nan)
    (replicate 32 nan) (record { refusal = 0; samples = n }) after → ⊥
equal_frames_played n after p =
    let e : ◌≡◌ {A = ℕ} 0 11 = refusal_is (asked 0 8) (level 2 2) (replicate 8 nan) (replicate 32 nan)
    (record { refusal = 0; samples = n }) after p ∙ equal_frames in
    omega (arith, e)

-- ---- it looks the cue up once, at the first frame: wherever the voice of the frame says something else
first_voice_throughout : (s : Stretch) (cues : List Cue) (input out after : List Float) (answer : Rendered)
    → RenderPromise s cues input out answer after → answer.refusal ≡ 0
    → (n p : ℕ) → n < s.frames → p < channels_of_order s.order
    → sample_at after s.stride p n ≡ get_or
    (spoken s.order (voice_at cues s.first) (sample_at input s.stride 0 n)) p nan
    → (get_or (spoken s.order (voice_at cues s.first) (sample_at input s.stride 0 n)) p nan
    ≡ get_or (spoken s.order (voice_at cues (s.first + n)) (sample_at input s.stride 0 n)) p nan → ⊥) → ⊥
first_voice_throughout s cues input out after answer P z n p h k e other =
    other (sym e ∙ every_frame s cues input out answer after P z n p h k)

-- so it is of the worked drill: at frame 5, where the second cue begins, the sample 4.0 is heard to the left, and the
-- first cue's voice would say nothing there
first_cue_throughout : (out after : List Float) → RenderPromise (asked 0 8) cues samples out
    (record { refusal = 0; samples = 8 }) after → sample_at after 8 1 5 ≡ zero_float → ⊥
first_cue_throughout out after p e =
    true≢false (ap positive (sym (ap (λ (fs : List (List Float)). get_or (get_or fs 5 []) 1 nan) worked)
    ∙ sym (every_frame (asked 0 8) cues samples out (record {
      refusal =
          0;
      samples = 8;
    }) after p refl 5 1 (lit< tt) (lit< tt)) ∙ e))

-- ---- it counts the stride for the frames
stride_counted : (s : Stretch) (cues : List Cue) (input out after : List Float) → (s.frames ≡ s.stride → ⊥)
    → RenderPromise s cues input out (record { refusal = 0; samples = s.stride }) after → ⊥
stride_counted s cues input out after other p =
    other (sym (all_counted s cues input out (record { refusal = 0; samples = s.stride }) after p refl))

-- ---- it stores something though it refuses
stored_though_refused : (s : Stretch) (cues : List Cue) (input out after : List Float) (answer : Rendered)
    → RenderPromise s cues input out answer after → (answer.refusal ≡ 0 → ⊥) → (after ≡ out → ⊥) → ⊥
stored_though_refused s cues input out after answer P h other =
    other (refused_unchanged s cues input out answer after P h).1
