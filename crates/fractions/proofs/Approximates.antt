-- What is known of a float that stands for an exact number, so that what is made of it can be bounded: how near the
-- number is, and how large it is. Assumes nothing.
use Rattle.lists.specs.Prelude.{ℕ, Float}
use Rattle.fractions.specs.Fraction.{Fraction, magnitude, number, AtMost, Within}

-- x is within 2 ^ -bits of q, and |q| is at most `most`
pub record Approximates (bits : ℕ) (most : Fraction) (x : Float) (q : Fraction) : Type 0 where
  pub near : Within bits (number x) q
  pub size : AtMost (magnitude q) most
