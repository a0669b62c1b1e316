-- Document 01, 'Angles': "sum x - x^3/3! + ... up to x^27/27!; the cosine likewise to x^28/28!". x is an angle in
-- radians, and any fraction of whole numbers. Definitions only.
use Rattle.std.specs.Prelude.{◌*◌}
use Rattle.lists.specs.Prelude.{ℕ, zero, suc}
use Rattle.fractions.specs.Fraction.{Fraction, whole, ◌⊕◌, ◌⊖◌, ◌⊗◌, ◌⊘◌}

unfoldable pub factorial : ℕ → ℕ
factorial zero = 1
factorial (suc n) = suc n * factorial n

-- x^n
unfoldable pub power : Fraction → ℕ → Fraction
power x zero = whole 1
power x (suc n) = x ⊗ power x n

-- x^n / n!
unfoldable pub term : Fraction → ℕ → Fraction
term x n = power x n ⊘ whole (factorial n)

unfoldable pub sine_sum : Fraction → Fraction
sine_sum x =
    term x 1 ⊖ term x 3 ⊕ term x 5 ⊖ term x 7 ⊕ term x 9 ⊖ term x 11 ⊕ term x 13 ⊖ term x 15 ⊕ term x 17 ⊖ term x 19 ⊕
    term x 21 ⊖ term x 23 ⊕ term x 25 ⊖ term x 27

unfoldable pub cosine_sum : Fraction → Fraction
cosine_sum x =
    term x 0 ⊖ term x 2 ⊕ term x 4 ⊖ term x 6 ⊕ term x 8 ⊖ term x 10 ⊕ term x 12 ⊖ term x 14 ⊕ term x 16 ⊖ term x 18 ⊕
    term x 20 ⊖ term x 22 ⊕ term x 24 ⊖ term x 26 ⊕ term x 28

-- the two, for laws that hold of both
pub data Wave : Type 0 where
  sine : Wave
  cosine : Wave

abbrev pub sum : Wave → Fraction → Fraction
sum sine x = sine_sum x
sum cosine x = cosine_sum x
