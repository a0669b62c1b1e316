-- The raw gain of a speaker is within 2 ^ -47 of document 02's, and not below 0: the place that the program turns the
-- speaker to is exact, and so is its test of nearness; the way to it is rounded once, and the slope of the cosine
-- carries that over. Assumes nothing.
use Rattle.std.specs.Prelude.{◌≡◌, ◌*◌, ◌^◌, ◌<◌}
use Rattle.lists.specs.Prelude.{refl, sym, ◌∙◌, subst, Bool, true, false, cond, ℕ, suc, mul-pos, arith, lit≤, lit<, ℤ}
use Rattle.lists.specs.Prelude.{pos, negsuc, Float, binary64, lt, neg, add, sub, of_int}
use Rattle.lists.proofs.Tests.{by_test, cond_cases, by_less, cond_true, cond_false}
use Rattle.fractions.specs.Fraction.{Fraction, fraction, whole, unit, opposite, magnitude, number, ◌⊕◌, ◌⊖◌, Same, Less}
use Rattle.fractions.specs.Fraction.{AtMost, is_less, Within}
use Rattle.fractions.proofs.Approximates.{Approximates}
use Rattle.fractions.proofs.Order.{same_refl, same_sym, at_most_trans, at_most_same, less_at_most}
use Rattle.fractions.proofs.Restate.{same_sub}
use Rattle.fractions.proofs.Close.{Close, Size, close_same, close_trans, size_same, size_unit, size_near, zero_near}
use Rattle.fractions.proofs.Within.{within_refl, within_close, close_within, within_counted, counted_within}
use Rattle.fractions.proofs.Within.{at_most_size, size_at_most}
use Rattle.fractions.proofs.Magnitude.{magnitude_turned, magnitude_left, close_magnitude}
use Rattle.fractions.proofs.Number.{number_neg}
use Rattle.fractions.proofs.Compare.{lt_number, less_true, is_less_same}
use Rattle.fractions.proofs.Operations.{sub_result}
use Rattle.fractions.proofs.Rounding.{rounding}
use Rattle.fractions.proofs.Near.{result_close}
use Rattle.fractions.proofs.Expression.{scale}
use Rattle.series.specs.Sums.{cosine}
use Rattle.series.specs.Angles.{defined_cosine}
use Rattle.series.proofs.Laws.{defined_most, defined_size, defined_close, cosine_not_below}
use Rattle.angles.specs.Promise as Angles
use Rattle.formats.specs.Floats.{zero_float, float}
use Rattle.angles.proofs.Laws.{outcome_kept, accepted, value_near}
use Rattle.channel.specs.Layouts.{low_frequency, degrees_of, azimuth_of}
use Rattle.channel.specs.declared.Layout.{Layout}
use Rattle.surround.specs.Formula.{degrees, speaker_at, distance, raw_gain, raw_at}
use Rattle.surround.specs.Computed.{absolute, not_below, turned_towards, is_near, way_of, raw_of, channel_gain}
use Rattle.surround.proofs.Speakers.{Exactly, Sides, Stands, speaker_stands}
use Rattle.surround.proofs.Ways.{turned_to, is_between, Way, the_way}

abbrev raw_bits : ℕ
raw_bits = 47

-- in units of 1 / scale: what rounding moves the way to a speaker by
abbrev way_error : ℕ
way_error = rounding binary64 (90 * scale)

-- what is known of a raw gain: it is near its formula, and not below 0
pub record Raw (x : Float) (q : Fraction) : Type 0 where
  pub known : Approximates raw_bits defined_most x q
  pub not_below_lem : AtMost (whole 0) (number x)

zero_not_below : AtMost (whole 0) (number zero_float)
unfolding of_int
zero_not_below = lit≤ tt

zero_raw : Raw zero_float (whole 0)
unfolding of_int
zero_raw = record {
  known = record { near = within_refl raw_bits (whole 0) (lit< tt); size = lit≤ tt };
  not_below_lem = zero_not_below;
}

-- ---- comparing with what is exact
module _ (a : Float) (A : 0 < (number a).over) where
  above_test : (x : Float) (q : Fraction) → Exactly x q → lt x a ≡ is_less q (number a)
  above_test x q e = lt_number x a e.first A ∙ is_less_same (number x) q (number a) (number a) e.first
      e.second A A e.same (same_refl (number a))

  below_test : (x : Float) (q : Fraction) → Exactly x q → lt a x ≡ is_less (number a) q
  below_test x q e = lt_number a x A e.first ∙ is_less_same (number a) (number a) (number x) q A A e.first
      e.second (same_refl (number a)) e.same

  turned_sides : (s : Float) (q : Fraction) → Stands s q → Sides (turned_towards a s) (turned_to (number a) q)
  unfolding turned_towards
  turned_sides s q h =
      subst (λ (b : Bool). Sides (placed b (lt a (sub binary64 s (float (pos 180))))) (turned_to (number a) q))
      (sym (above_test _ _ h.above))
      (subst (λ (c : Bool). Sides (placed (is_less (q ⊕ whole 180) (number a)) c) (turned_to (number a) q))
      (sym (below_test _ _ h.below))
      (go (is_less (q ⊕ whole 180) (number a)) (is_less (number a) (q ⊖ whole 180))))
    where
      placed : Bool → Bool → Float
      placed b c = cond b (add binary64 s (float (pos 360))) (cond c (sub binary64 s (float (pos 360))) s)

      go : (b c : Bool) → Sides
          (cond b (add binary64 s (float (pos 360))) (cond c (sub binary64 s (float (pos 360))) s))
          (cond b (q ⊕ whole 360) (cond c (q ⊖ whole 360) q))
      go true c = h.on
      go false true = h.back
      go false false = h.here

  near_test : (t : Float) (q : Fraction) → Sides t q → is_near a t ≡ is_between (number a) q
  unfolding is_near
  near_test t q h = λ i. cond (above_test _ _ h.below i) (below_test _ _ h.above i) false

-- ---- the magnitude of a float
module _ (x : Float) (X : 0 < (number x).over) where
  sign_test : lt x zero_float ≡ is_less (number x) (whole 0)
  unfolding of_int
  sign_test = lt_number x zero_float X (lit< tt)

  absolute_same : Same (number (absolute x)) (magnitude (number x))
  unfolding absolute
  absolute_same =
      subst (λ (b : Bool). Same (number (cond b (neg x) x)) (magnitude (number x))) (sym sign_test)
      (by_less (λ (v : Float). Same (number v) (magnitude (number x))) _ _
      (λ l. subst (λ (q : Fraction). Same q (magnitude (number x))) (sym (number_neg x))
      (magnitude_turned (number x) l)) (magnitude_left (number x)))

  absolute_over : 0 < (number (absolute x)).over
  unfolding absolute
  absolute_over = cond_cases (λ (v : Float). 0 < (number v).over) (lt x zero_float)
      (subst (λ (q : Fraction). 0 < q.over) (sym (number_neg x)) X) X

  -- ---- lifted to 0, near a number that is 0 at least, up to 2 ^ -50
  zero_within : (q : Fraction) → Within raw_bits (number x) q → Less (number x) (whole 0)
      → AtMost (opposite (unit 50)) q → Within raw_bits (number zero_float) q
  unfolding of_int
  zero_within q h s l = close_within
      (zero_near (number x) q (within_close h) (less_at_most (number x) (whole 0) s)
      (at_most_trans (opposite (unit raw_bits)) (opposite (unit 50)) q (lit< tt) (lit≤ tt) l))

  lifted : (q : Fraction) → Approximates raw_bits defined_most x q → AtMost (opposite (unit 50)) q → Raw (not_below x) q
  unfolding not_below
  lifted q h l =
      subst (λ (b : Bool). Raw (cond b zero_float x) q) (sym sign_test)
      (by_less (λ (v : Float). Raw v q) _ _
      (λ s. record {
        known = record { near = zero_within q h.near s l; size = h.size };
        not_below_lem = zero_not_below;
      }) (λ s. record { known = h; not_below_lem = s }))

-- ---- the raw gain of a speaker that stands at p - m
module _ (a s : Float) (p m : ℕ) (A : 0 < (number a).over) (H : AtMost (magnitude (number a)) (whole 180))
    (S : Stands s (fraction p m 1)) where
  abbrev q : Fraction
  q = fraction p m 1

  abbrev T : Fraction
  T = turned_to (number a) q

  abbrev t : Float
  t = turned_towards a s

  abbrev d : Fraction
  d = distance (number a) q

  way : Way (number a) T d
  way = the_way (number a) p m A H S.size

  there : Sides t T
  there = turned_sides a A s q S

  -- ---- a speaker that is near
  module _ (n : Less d (whole 90)) where
    abbrev x : Float
    x = sub binary64 a t

    abbrev v : Float
    v = (Angles.outcome cosine (way_of a t)).value

    between : Same (number a ⊖ number t) (number a ⊖ T)
    between = same_sub (number a) (number a) (number t) T (same_refl (number a)) there.is.same

    between_pos : 0 < (number a ⊖ T).over
    between_pos = mul-pos A there.is.second

    difference_size : Size scale (number a ⊖ number t) (90 * scale)
    difference_size =
        let M = magnitude (number a ⊖ T) in
        let m : AtMost M (whole 90) = at_most_same M d (whole 90) (whole 90) (same_sym d M way.same)
        (same_refl (whole 90)) way.over (lit< tt) (less_at_most d (whole 90) n) in
        size_same (number a ⊖ number t) between_pos (mul-pos A there.is.first) between
        (size_unit (lit< tt) (lit≤ tt) (at_most_size m))

    difference_close : Close scale (number x) (number a ⊖ T) way_error
    difference_close =
        let c : Close scale (number x) (number a ⊖ number t) way_error = result_close binary64 tt
        (mul-pos A there.is.first) difference_size (sub_result binary64 a t A there.is.first) in
        close_same (number x) (number a ⊖ T) c.first between_pos (same_refl (number x)) between c

    way_close : Close scale (number (way_of a t)) d way_error
    unfolding way_of
    way_close =
        let X = difference_close.first in
        close_same (number (absolute x)) d (absolute_over x X) way.over (absolute_same x X)
        (same_sym d (magnitude (number a ⊖ T)) way.same) (close_magnitude difference_close)

    way_size : Size scale d (90 * scale)
    way_size = size_unit (lit< tt) (lit≤ tt) (at_most_size (inner d way.not_below_lem n))
      where
        inner : (d : Fraction) → AtMost (whole 0) d → Less d (whole 90) → AtMost (magnitude d) (whole 90)
        inner d h k = omega arith

    way_accepted : Angles.refusal_of (way_of a t) ≡ 0
    way_accepted = accepted (way_of a t) way_close.first
        (size_at_most (size_unit (lit< tt) (lit≤ tt) (size_near way_close way_size)))

    known_cosine : Approximates raw_bits defined_most v (defined_cosine d)
    known_cosine = record {
      near =
          counted_within {W = 2 ^ 54 * scale} (lit< tt) (lit≤ tt)
          (close_trans (within_counted (2 ^ 4 * scale) (lit≤ tt)
          (value_near cosine (way_of a t) (Angles.outcome cosine (way_of a t)) (outcome_kept cosine (way_of a t))
          way_accepted)) (defined_close cosine (lit< tt) way_close));
      size = defined_size cosine d way.over;
    }

    raised : Raw (not_below v) (defined_cosine d)
    raised = lifted v known_cosine.near.first (defined_cosine d) known_cosine
        (cosine_not_below d way.over way.not_below_lem (less_at_most d (whole 90) n))

  raw_test : is_near a t ≡ is_less d (whole 90)
  raw_test = near_test a A t T there ∙ sym way.near

  raw_gain_lem : Raw (raw_of a s) (raw_gain (number a) q)
  unfolding raw_of raw_gain
  raw_gain_lem =
      let v = (Angles.outcome cosine (way_of a t)).value in
      subst (λ (b : Bool). Raw (cond b (not_below v) zero_float) (raw_gain (number a) q)) (sym raw_test)
      (by_test (λ (b : Bool). Raw (cond b (not_below v) zero_float) (cond b (defined_cosine d) (whole 0)))
      (is_less d (whole 90)) (λ e. raised (less_true d (whole 90) e)) (λ e. zero_raw))

  raw_silent : is_less d (whole 90) ≡ false → raw_of a s ≡ zero_float
  unfolding raw_of
  raw_silent h = cond_false _ zero_float (raw_test ∙ h)

-- ---- of a channel
module _ (l : Layout) (a : Float) (c : ℕ) (A : 0 < (number a).over)
    (H : AtMost (magnitude (number a)) (whole 180)) where
  -- what holds of a speaker that stands at a whole number holds of this one
  at_speaker : (P : Float → Fraction → Type 0)
      → ((s : Float) (p m : ℕ) → Stands s (fraction p m 1) → P s (fraction p m 1)) → P (azimuth_of l c) (speaker_at l c)
  at_speaker P f = go (degrees_of l c) (speaker_stands l c)
    where
      go : (z : ℤ) → Stands (of_int binary64 z) (degrees z) → P (of_int binary64 z) (degrees z)
      go (pos n) h = f (of_int binary64 (pos n)) n 0 h
      go (negsuc n) h = f (of_int binary64 (negsuc n)) 0 (suc n) h

  pub channel_raw : Raw (channel_gain l a c) (raw_at l (number a) c)
  unfolding channel_gain raw_at
  channel_raw = go (low_frequency l c)
    where
      go : (b : Bool) → Raw (cond b zero_float (raw_of a (azimuth_of l c)))
          (cond b (whole 0) (raw_gain (number a) (speaker_at l c)))
      go true = zero_raw
      go false = at_speaker (λ (s : Float) (q : Fraction). Raw (raw_of a s) (raw_gain (number a) q))
          (λ s p m h. raw_gain_lem a s p m A H h)

  pub channel_silent : is_less (distance (number a) (speaker_at l c)) (whole 90) ≡ false
      → channel_gain l a c ≡ zero_float
  unfolding channel_gain
  channel_silent h =
      cond_cases (λ (v : Float). v ≡ zero_float) (low_frequency l c) refl
      (at_speaker (λ (s : Float) (q : Fraction). is_less (distance (number a) q) (whole 90) ≡ false
      → raw_of a s ≡ zero_float) (λ s p m k. raw_silent a s p m A H k) h)

  pub channel_low : low_frequency l c ≡ true → channel_gain l a c ≡ zero_float
  unfolding channel_gain
  channel_low h = cond_true zero_float (raw_of a (azimuth_of l c)) h
