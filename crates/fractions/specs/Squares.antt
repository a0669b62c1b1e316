-- Document 01, 'Gains': the bounds that are stated by squares, since the exact gain is G / √S and that is no fraction.
-- Surround: "the gain is not below zero, and the square of the exact gain lies between the squares of this gain less
-- 2^-30 (zero if that is negative) and plus 2^-30." Decoder matrix: "by squares in the same way on magnitudes, with the
-- sign of the formula wherever the formula exceeds 2^-33 in magnitude." Definitions only.
use Rattle.std.specs.Prelude.{◌-◌, ◌<◌, ◌∷◌}
use Rattle.lists.specs.Prelude.{ℕ, List, []}
use Rattle.fractions.specs.Fraction.{Fraction, fraction, whole, unit, magnitude, square, ◌⊕◌, ◌⊖◌, ◌⊗◌, ◌⊘◌, Less}
use Rattle.fractions.specs.Fraction.{AtMost}

-- the sum of squares, from 0
abbrev pub sum_from : Fraction → List Fraction → Fraction
sum_from acc [] = acc
sum_from acc (g ∷ l) = sum_from (acc ⊕ square g) l

abbrev pub sum_squares : List Fraction → Fraction
sum_squares l = sum_from (whole 0) l

-- the gain, in magnitude, plus 2 ^ -k
abbrev pub magnitude_above : ℕ → Fraction → Fraction
magnitude_above k x = magnitude x ⊕ unit k

-- the gain, in magnitude, less 2 ^ -k, or zero if that is negative
abbrev pub magnitude_below : ℕ → Fraction → Fraction
magnitude_below k x = let d = magnitude x ⊖ unit k in fraction (d.plus - d.minus) 0 d.over

-- x is within 2 ^ -k of G / √S, by squares: the exact square G² / S lies between those of x lowered and x raised, and x
-- has the sign of G wherever the exact gain exceeds 2 ^ -k in magnitude
pub record BySquares (k : ℕ) (x G S : Fraction) : Type 0 where
  pub gain : 0 < x.over
  pub formula : 0 < G.over
  pub sum : 0 < S.over
  pub positive : Less (whole 0) S
  pub above : AtMost (square G ⊘ S) (square (magnitude_above k x))
  pub below : AtMost (square (magnitude_below k x)) (square G ⊘ S)
  pub sign : Less (square (unit k)) (square G ⊘ S) → Less (whole 0) (x ⊗ G)
