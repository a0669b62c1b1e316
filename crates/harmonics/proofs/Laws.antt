-- What the crates above cite of the coefficients, beside their promise: which orders and directions are accepted, that
-- each coefficient is nearer its formula than promised, and how large the formula is. Assumes nothing.
use Rattle.std.specs.Prelude.{◌≡◌, ◌||◌, ◌≤◌, ◌<◌}
use Rattle.lists.specs.Prelude.{sym, ap, ◌∙◌, subst, Bool, true, false, cond, List, ℕ, arith, pos, lit<, length, get_or}
use Rattle.lists.specs.Prelude.{Float, binary64, round, of_int}
use lib.Ieee.Exact.{HasValue}
use lib.Ieee.Back.{round_whole}
use Rattle.formats.specs.Floats.{float}
use Rattle.channel.specs.Orders.{refuses_order}
use Rattle.fractions.specs.Fraction.{Fraction, number, signed, whole, magnitude, AtMost}
use Rattle.fractions.proofs.Approximates.{Approximates}
use Rattle.fractions.proofs.Close.{Size, size_same}
use Rattle.fractions.proofs.Within.{size_at_most}
use Rattle.fractions.proofs.Number.{value_same, value_number}
use Rattle.harmonics.specs.Formulas.{formulas}
use Rattle.harmonics.specs.Computed.{waves_of, up_to}
use Rattle.harmonics.specs.Promise.{refuses_azimuth, refuses_elevation, refuses_direction, refusal_of}
use Rattle.harmonics.specs.Promise.{HarmonicsPromise}
use Rattle.harmonics.specs.declared.Direction.{Direction}
use Rattle.harmonics.specs.Promise.{Coefficients}
use Rattle.angles.proofs.Limits.{accepted_number, accepted_size, size_accepted}
use Rattle.harmonics.proofs.Meets as Kept
-- what is known of an order and a direction that are accepted
pub use Rattle.harmonics.proofs.Meets.{is_accepted}
-- the promise holds of the answer that the definition gives, so that all of it can be had of coefficients that are said
-- by the definition alone
pub use Rattle.harmonics.proofs.Meets.{outcome_kept}

-- ---- which angles are accepted: those of 180, or of 90 degrees at most in size
module _ (x : Float) (X : 0 < (number x).over) where
  azimuth_accepted : AtMost (magnitude (number x)) (whole 180) → refuses_azimuth x ≡ false
  unfolding of_int
  azimuth_accepted = size_accepted (float (pos 180)) x (lit< tt) X

  pub elevation_accepted : AtMost (magnitude (number x)) (whole 90) → refuses_elevation x ≡ false
  unfolding of_int
  elevation_accepted = size_accepted (float (pos 90)) x (lit< tt) X

pub azimuth_number : (x : Float) → refuses_azimuth x ≡ false → 0 < (number x).over
azimuth_number = accepted_number (float (pos 180))

pub azimuth_size : (x : Float) → refuses_azimuth x ≡ false → AtMost (magnitude (number x)) (whole 180)
unfolding of_int
azimuth_size x = accepted_size (float (pos 180)) x (lit< tt)

-- whole degrees, of either sign
module _ (s : Bool) (n : ℕ) (h : n ≤ 180) where
  whole_number : HasValue (round binary64 s n 1) s n 1
  whole_number = round_whole binary64 s n (omega arith)

  pub whole_accepted : refuses_azimuth (round binary64 s n 1) ≡ false
  whole_accepted =
      let x = round binary64 s n 1 in
      let X = value_number x s n 1 whole_number in
      azimuth_accepted x X (size_at_most (size_same (number x) (lit< tt) X (value_same x s n 1 whole_number) (size s)))
    where
      size : (s : Bool) → Size 1 (signed s n 1) 180
      size true = record { above = omega arith; below = omega arith }
      size false = record { above = omega arith; below = omega arith }

-- ---- which orders and directions are accepted
pub direction_accepted : (d : Direction) → refuses_azimuth d.azimuth ≡ false → refuses_elevation d.elevation ≡ false
    → refuses_direction d ≡ false
direction_accepted d a e = λ i. a i || e i

pub accepted : (order : ℕ) (d : Direction) → refuses_order order ≡ false → refuses_direction d ≡ false
    → refusal_of order d ≡ 0
accepted order d n h = λ i. cond (n i) 1 (cond (h i) 3 0)

module _ (order : ℕ) (d : Direction) (answer : Coefficients) (p : HarmonicsPromise order d answer) where
  pub refusal_is : answer.refusal ≡ refusal_of order d
  refusal_is = ap (λ (r : Coefficients). r.refusal) p.bits ∙ Kept.refusal_is order d

  pub gains_are : refusal_of order d ≡ 0 → answer.gains ≡ up_to order (waves_of d)
  gains_are h = ap (λ (r : Coefficients). r.gains) p.bits ∙ Kept.gains_are order d h

  -- ---- each, by its channel: nearer than promised, and of what magnitude
  pub gain_near : refusal_of order d ≡ 0 → (i : ℕ) (x : Float) (q : Fraction) → i < 16
      → Approximates 42 (whole 5) (get_or answer.gains i x)
      (get_or (formulas order (number d.azimuth) (number d.elevation)) i q)
  gain_near h i x q l =
      subst (λ (xs : List Float). Approximates 42 (whole 5) (get_or xs i x)
      (get_or (formulas order (number d.azimuth) (number d.elevation)) i q)) (sym (gains_are h))
      ((Kept.near_all order d h).each i x q l)

  -- ---- there are sixteen, refused or not
  pub gains_length : length answer.gains ≡ 16
  gains_length = ap (λ (r : Coefficients). length r.gains) p.bits ∙ Kept.length_is order d
