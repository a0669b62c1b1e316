-- A speaker is silent where the azimuth is from 90 to 270 degrees ahead of it (`silent_ahead`), or behind it
-- (`silent_behind`). So in 5.1 both surround speakers sound only where the front ones are silent (`settled_51`), and in
-- 7.1 of the side speakers one is silent (`sides_71`), and of the rear ones as far as the limit (`rear_71`). Assumes
-- nothing.
use Rattle.std.specs.Prelude.{◌≡◌, ◌⊎◌, ◌<◌}
use Rattle.lists.specs.Prelude.{refl, sym, ap, ◌∙◌, subst, inl, inr, Bool, false, cond, arith, ℤ, pos, negsuc, Float}
use Rattle.lists.specs.Prelude.{binary64, neg, add, sub, lt, of_int, round}
use Rattle.lists.proofs.Tests.{cond_cases, cond_false}
use Rattle.formats.specs.Floats.{zero_float, float}
use Rattle.fractions.specs.Fraction.{fraction, whole, magnitude, number, AtMost}
use Rattle.fractions.proofs.Order.{by_side}
use Rattle.fractions.proofs.Compare.{is_not_less, lt_number}
use Rattle.surround.specs.Computed.{turned_towards, is_near, raw_of}
use Rattle.mirror.specs.Parts.{OneZero}
use Rattle.mirror.specs.Surround.{rear_limit}

module _ (a : Float) (A : 0 < (number a).over) where
  -- the azimuth is x or farther on, and x or farther back
  abbrev FarOn : Float → Type 0
  FarOn x = (0 < (number x).over) × AtMost (number x) (number a)

  abbrev FarBack : Float → Type 0
  FarBack x = (0 < (number x).over) × AtMost (number a) (number x)

  not_under : (x : Float) → FarOn x → lt a x ≡ false
  not_under x h = lt_number a x A h.0 ∙ is_not_less (number a) (number x) h.1

  not_over : (x : Float) → FarBack x → lt x a ≡ false
  not_over x h = lt_number x a h.0 A ∙ is_not_less (number x) (number a) h.1

  -- what is not near is silent, and it is enough that one of the two tests fails
  abbrev Far : Float → Type 0
  Far t = is_near a t ≡ false

  low_end : (t : Float) → FarBack (sub binary64 t (float (pos 90))) → Far t
  unfolding is_near
  low_end t h = cond_false _ false (not_over (sub binary64 t (float (pos 90))) h)

  high_end : (t : Float) → FarOn (add binary64 t (float (pos 90))) → Far t
  unfolding is_near
  high_end t h =
      let low = lt (sub binary64 t (float (pos 90))) a in
      ap (λ (b : Bool). cond low b false) (not_under (add binary64 t (float (pos 90))) h)
      ∙ cond_cases (λ (b : Bool). b ≡ false) low refl refl

  far_silent : (s : Float) → Far (turned_towards a s) → raw_of a s ≡ zero_float
  unfolding raw_of
  far_silent s h = cond_false _ zero_float h

  module _ (s : Float) where
    abbrev on : Float
    on = add binary64 s (float (pos 360))

    abbrev back : Float
    back = sub binary64 s (float (pos 360))

    -- ahead of the speaker by 90 degrees at least, and by 270 at most; behind it
    abbrev pub Ahead : Type 0
    Ahead = FarOn (add binary64 s (float (pos 90))) × FarOn (sub binary64 s (float (pos 180)))
        × FarBack (sub binary64 on (float (pos 90)))

    abbrev pub Behind : Type 0
    Behind = FarBack (sub binary64 s (float (pos 90))) × FarBack (add binary64 s (float (pos 180)))
        × FarOn (add binary64 back (float (pos 90)))

    silent_ahead : Ahead → raw_of a s ≡ zero_float
    unfolding turned_towards
    silent_ahead h =
        far_silent s
        (cond_cases Far (lt (add binary64 s (float (pos 180))) a) (low_end on h.2)
        (subst Far (sym (cond_false back s (not_under (sub binary64 s (float (pos 180))) h.1))) (high_end s h.0)))

    silent_behind : Behind → raw_of a s ≡ zero_float
    unfolding turned_towards
    silent_behind h =
        far_silent s
        (subst Far (sym (cond_false on _ (not_over (add binary64 s (float (pos 180))) h.1)))
        (cond_cases Far (lt a (sub binary64 s (float (pos 180)))) (high_end back h.2) (low_end s h.0)))

-- ---- the speakers of 5.1 and 7.1

module _ (a : Float) (A : 0 < (number a).over) where
  -- the speaker that stands at so many degrees
  abbrev gain_at : ℤ → Float
  gain_at z = raw_of a (float z)

  abbrev FrontSilent : Type 0
  FrontSilent = (gain_at (pos 30) ≡ zero_float) × (gain_at (negsuc 29) ≡ zero_float) × (gain_at (pos 0) ≡ zero_float)

  -- behind to the left, and to the right
  front_left : AtMost (whole 120) (number a) → AtMost (number a) (whole 180) → FrontSilent
  unfolding add sub neg of_int round
  front_left h k = (
    silent_ahead a A (float (pos 30)) (omega arith),
    silent_ahead a A (float (negsuc 29)) (omega arith),
    silent_ahead a A (float (pos 0)) (omega arith),
  )

  front_right : AtMost (number a) (fraction 0 120 1) → AtMost (fraction 0 180 1) (number a) → FrontSilent
  unfolding add sub neg of_int round
  front_right h k = (
    silent_behind a A (float (pos 30)) (omega arith),
    silent_behind a A (float (negsuc 29)) (omega arith),
    silent_behind a A (float (pos 0)) (omega arith),
  )

  module _ (H : AtMost (magnitude (number a)) (whole 180)) where
    pub settled_51 : OneZero (gain_at (pos 110)) (gain_at (negsuc 109)) ⊎ FrontSilent
    unfolding add sub neg of_int round
    settled_51 =
        by_side (whole 160) (number a) (λ l. inr (front_left (omega arith) (omega arith)))
        (λ h. by_side (number a) (fraction 0 160 1) (λ l. inr (front_right (omega arith) (omega arith)))
        (λ k. by_side (number a) (whole 0) (λ l. inl (inl (silent_behind a A (float (pos 110)) (omega arith))))
        (λ l. inl (inr (silent_ahead a A (float (negsuc 109)) (omega arith))))))

    pub sides_71 : OneZero (gain_at (pos 90)) (gain_at (negsuc 89))
    unfolding add sub neg of_int round
    sides_71 = by_side (number a) (whole 0) (λ l. inl (silent_behind a A (float (pos 90)) (omega arith)))
        (λ l. inr (silent_ahead a A (float (negsuc 89)) (omega arith)))

  pub rear_71 : AtMost (magnitude (number a)) (number rear_limit) → OneZero (gain_at (pos 150)) (gain_at (negsuc 149))
  unfolding add sub neg of_int round
  rear_71 H = by_side (number a) (whole 0) (λ l. inl (silent_behind a A (float (pos 150)) (omega arith)))
      (λ l. inr (silent_ahead a A (float (negsuc 149)) (omega arith)))
