-- The last L frames: a frame more goes before all but the oldest, and what an ear hears is known by them. Assumes
-- nothing.
use Rattle.std.specs.Prelude.{◌≡◌, ◌∷◌, ◌-◌, ◌<◌}
use Rattle.lists.specs.Prelude.{sym, ap, ◌∙◌, List, ℕ, zero, suc, not-suc-le-zero, sub-one, arith, get_or, take, Float}
use Rattle.lists.specs.Prelude.{binary64, mul}
use Rattle.formats.specs.Floats.{zero_float}
use Rattle.numbers.specs.Computed.{narrowed}
use Rattle.lists.specs.Tables.{tab}
use Rattle.planes.specs.Sums.{dot, total}
use Rattle.numbers.specs.Normalization.{inverse_root_of}
use Rattle.lists.proofs.Tables.{tab_ext, tab_shift, take_tab}
use Rattle.hrtf_history.specs.Setup.{Setup, taps_of}
use Rattle.hrtf_history.specs.History.{signal_ago, window, part, ear_of, ear_sample, ear_samples}

-- a frame more
pub window_more : (u : Setup) (s : ℕ) (x : List Float) (past : List (List Float)) → 0 < u.L
    → window u s (x ∷ past) ≡ get_or x s zero_float ∷ take (u.L - 1) (window u s past)
window_more u s x past h = from u.L h
  where
    from : (n : ℕ) → 0 < n → tab 0 n (signal_ago s (x ∷ past)) ≡ get_or x s zero_float
        ∷ take (n - 1) (tab 0 n (signal_ago s past))
    from zero h = absurd (not-suc-le-zero h)
    from (suc n) h =
        ap (λ (l : List Float). get_or x s zero_float ∷ l)
        (tab_shift 0 n (signal_ago s (x ∷ past))
        ∙ sym (take_tab 0 (suc n - 1) (suc n) (signal_ago s past) (omega arith)
        ∙ ap (λ (k : ℕ). tab 0 k (signal_ago s past)) (sub-one (suc n))))

-- ---- two pasts with the same last L frames

pub ear_of_ext : (n : ℕ) (f g : ℕ → Float) → ((s : ℕ) → s < n → f s ≡ g s) → ear_of n f ≡ ear_of n g
unfolding ear_of
ear_of_ext n f g e = ap (λ (l : List Float). narrowed (mul binary64 (total zero_float l) (inverse_root_of n)))
    (tab_ext 0 n f g (λ s h. e s (omega arith)))

module _ (u : Setup) (past qast : List (List Float))
    (same : (k s : ℕ) → k < u.L → s < u.speakers → signal_ago s past k ≡ signal_ago s qast k) where
  ear_same : (ear : ℕ) → ear_sample u ear past ≡ ear_sample u ear qast
  ear_same ear =
      ear_of_ext u.speakers (part u ear past) (part u ear qast)
      (λ s lt. ap (λ (w : List Float). dot zero_float w (taps_of u ear s))
      (tab_ext 0 u.L (signal_ago s past) (signal_ago s qast) (λ k h. same k s (omega arith) lt)))

  -- sound the same
  pub ears_same : ear_samples u past ≡ ear_samples u qast
  ears_same = cc (ear_same 0, ear_same 1)
