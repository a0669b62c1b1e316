-- With finite weights a frame of silence has the signal 0.0 at every speaker, and is no damage. So silence before the
-- first frame is silence like any other. Assumes nothing.
use Rattle.std.specs.Prelude.{◌≡◌, ◌||◌, ◌∷◌, ◌*◌, ◌<◌}
use Rattle.lists.specs.Prelude.{refl, sym, ap, ◌∙◌, Bool, false, List, [], map, reverse_aux, ℕ, zero, suc, arith, take}
use Rattle.lists.specs.Prelude.{drop, Float}
use lib.Ieee.Scale.{finite}
use Rattle.formats.specs.Floats.{zero_float}
use Rattle.lists.specs.Tables.{tab, any}
use Rattle.lists.proofs.Tables.{tab_ext, tab_shift}
use Rattle.checks.specs.Finite.{has_nonfinite}
use Rattle.checks.proofs.Checks.{all_off, finite_tab, finite_take, finite_drop}
use Rattle.planes.proofs.Silence.{mixed_silence}
use Rattle.hrtf_history.specs.Setup.{Setup, weights_of}
use Rattle.hrtf_history.specs.Signals.{signal, signals, damaged, silent_frame}
use Rattle.hrtf_history.specs.History.{signal_ago, ear_samples, after, frame_back, damaged_last}
use Rattle.hrtf_history.proofs.Signals.{signal_at}
use Rattle.hrtf_history.proofs.Windows.{ears_same}

module _ (u : Setup) (w : has_nonfinite u.weights ≡ false) where
  signal_silence : (s : ℕ) → signal u s (silent_frame u) ≡ zero_float
  signal_silence s = mixed_silence u.channels (weights_of u s)
      (finite_take u.channels (drop (s * u.channels) u.weights) (finite_drop (s * u.channels) u.weights w))

  pub silence_sound : damaged u (silent_frame u) ≡ false
  silence_sound = finite_tab 0 u.speakers (λ s. signal u s (silent_frame u)) (λ s. ap finite (signal_silence s))

  -- a speaker's signal k frames ago is that of the frame
  signal_ago_lem : (fs : List (List Float)) (k s : ℕ) → s < u.speakers
      → signal_ago s (map (signals u) fs) k ≡ signal u s (frame_back u fs k)
  signal_ago_lem [] k s h = sym (signal_silence s)
  signal_ago_lem (f ∷ fs) zero s h = signal_at u f s zero_float h
  signal_ago_lem (f ∷ fs) (suc k) s h = signal_ago_lem fs k s h

  -- so frames that agree on the last L sound the same
  pub ears_agree : (fs gs : List (List Float)) → ((k : ℕ) → k < u.L → frame_back u fs k ≡ frame_back u gs k)
      → ear_samples u (map (signals u) fs) ≡ ear_samples u (map (signals u) gs)
  ears_agree fs gs e = ears_same u (map (signals u) fs) (map (signals u) gs)
      (λ k s hk hs. signal_ago_lem fs k s hs ∙ ap (signal u s) (e k hk) ∙ sym (signal_ago_lem gs k s hs))

  -- damage among the last L signals is damage among the last L frames
  pub damaged_last_lem : (fs : List (List Float)) → any (take u.L (map has_nonfinite (map (signals u) fs)))
      ≡ damaged_last u fs
  damaged_last_lem fs = among u.L fs
    where
      among : (n : ℕ) (fs : List (List Float)) → any (take n (map has_nonfinite (map (signals u) fs)))
          ≡ any (tab 0 n (λ k. damaged u (frame_back u fs k)))
      among zero fs = refl
      among (suc n) [] = sym (all_off 0 (suc n) (λ k. damaged u (silent_frame u)) (λ k h. silence_sound))
      among (suc n) (f ∷ fs) = ap (λ (b : Bool). damaged u f || b)
          (among n fs ∙ ap any (sym (tab_shift 0 n (λ k. damaged u (frame_back u (f ∷ fs) k)))))

-- and they are both damaged, or neither
pub damage_agrees : (u : Setup) (fs gs : List (List Float))
    → ((k : ℕ) → k < u.L → frame_back u fs k ≡ frame_back u gs k) → damaged_last u fs ≡ damaged_last u gs
damage_agrees u fs gs e = ap any (tab_ext 0 u.L (λ k. damaged u (frame_back u fs k))
    (λ k. damaged u (frame_back u gs k)) (λ k h. ap (damaged u) (e k (omega arith))))

-- a past is the signals of the frames, read backwards
pub after_is : (u : Setup) (fs past : List (List Float)) → after u (map (signals u) past) fs ≡ map (signals u)
    (reverse_aux fs past)
after_is u [] past = refl
after_is u (f ∷ fs) past = after_is u fs (f ∷ past)
