-- The angles that are refused: those that are no number from -limit to limit. Said over the limit, a float that is a
-- number, and so for an azimuth, an elevation and a sine's angle. Assumes nothing.
use Rattle.std.specs.Prelude.{◌≡◌, ◌<◌}
use Rattle.lists.specs.Prelude.{refl, sym, ap, ◌∙◌, subst, true, false, not, lt_irrefl, T, Float, nan, inf, fin, lt, eq}
use Rattle.lists.specs.Prelude.{le, neg, not-false}
use lib.Ieee.Fits.{and_l, and_r, and_i}
use lib.Ieee.Bits.{is_true}
use lib.Ieee.Scale.{finite}
use Rattle.refusals.proofs.First.{or_off}
use Rattle.fractions.specs.Fraction.{Fraction, number, magnitude, AtMost}
use Rattle.fractions.proofs.Number.{number_neg, finite_number}
use Rattle.fractions.proofs.Magnitude.{between_magnitude, magnitude_below_lem, magnitude_above_lem}
use Rattle.fractions.proofs.Compare.{le_at_most, at_most_le}
use Rattle.angles.specs.Limits.{is_inside, refuses_angle}

-- ---- an angle that is not refused
module _ (limit x : Float) (h : refuses_angle limit x ≡ false) where
  pub accepted_inside : T (is_inside limit x)
  unfolding refuses_angle
  accepted_inside = rw (not-false (is_inside limit x) (or_off (not (finite x)) (not (is_inside limit x)) h).1) tt

  pub accepted_number : 0 < (number x).over
  unfolding refuses_angle
  accepted_number =
      finite_number x (subst T (sym (not-false (finite x) (or_off (not (finite x)) (not (is_inside limit x)) h).0)) tt)

-- ---- what lies inside is a number, so that one test is enough
pub refused_is : (limit x : Float) → 0 < (number limit).over → refuses_angle limit x ≡ not (is_inside limit x)
unfolding refuses_angle is_inside le lt eq neg
refused_is nan x L = absurd (lt_irrefl 0 L)
refused_is (inf s) x L = absurd (lt_irrefl 0 L)
refused_is (fin s m e) nan L = refl
refused_is (fin s m e) (inf true) L = refl
refused_is (fin s m e) (inf false) L = refl
refused_is (fin s m e) (fin t n d) L = refl

module _ (limit x : Float) (L : 0 < (number limit).over) where
  opposite_number : 0 < (number (neg limit)).over
  opposite_number = subst (λ (q : Fraction). 0 < q.over) (sym (number_neg limit)) L

  -- ---- and its size is the limit at most, and the other way round
  pub inside_size : T (is_inside limit x) → AtMost (magnitude (number x)) (number limit)
  unfolding is_inside
  inside_size i =
      let X = accepted_number limit x (refused_is limit x L ∙ ap not (is_true (is_inside limit x) i)) in
      between_magnitude (number x) (number limit)
      (subst (λ (z : Fraction). AtMost z (number x)) (number_neg limit)
      (le_at_most (neg limit) x (and_l (le (neg limit) x) (le x limit) i) opposite_number X))
      (le_at_most x limit (and_r (le (neg limit) x) (le x limit) i) X L)

  pub accepted_size : refuses_angle limit x ≡ false → AtMost (magnitude (number x)) (number limit)
  accepted_size h = inside_size (accepted_inside limit x h)

  pub size_accepted : 0 < (number x).over → AtMost (magnitude (number x)) (number limit) → refuses_angle limit x ≡ false
  unfolding is_inside
  size_accepted X h = cc (
    refused_is limit x L,
    is_true (is_inside limit x)
        (and_i (le (neg limit) x) (le x limit)
        (at_most_le (neg limit) x opposite_number X
        (subst (λ (z : Fraction). AtMost z (number x)) (sym (number_neg limit))
        (magnitude_above_lem (number x) (number limit) h)))
        (at_most_le x limit X L (magnitude_below_lem (number x) (number limit) h))),
  )
