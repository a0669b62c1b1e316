-- Sums of squares: such a sum is no less than each of the squares in it; and as an expression. Assumes nothing.
use Rattle.std.specs.Prelude.{◌∷◌, ◌*◌, ◌≤◌, ◌<◌}
use Rattle.lists.specs.Prelude.{List, [], ℕ, zero, suc, le_refl, mul-le-mul_right, le_of_suc-le-suc, not-suc-le-zero}
use Rattle.lists.specs.Prelude.{arith, length, get_or}
use Rattle.fractions.specs.Fraction.{Fraction, whole, square, ◌⊕◌, AtMost}
use Rattle.fractions.specs.Squares.{sum_from, sum_squares}
use Rattle.fractions.proofs.Magnitude.{square_not_below}
use Rattle.fractions.proofs.Expression.{Expression, ◌+'◌, ◌*'◌}

-- ---- a square more, and it is not below 0 if it was not
step : (acc g : Fraction) → acc.minus ≤ acc.plus → (acc ⊕ square g).minus ≤ (acc ⊕ square g).plus
step acc g h = omega (arith, mul-le-mul_right (square g).over h, mul-le-mul_right acc.over (square_not_below g))

-- ---- no less than each of the squares
-- what is at most the sum so far is at most the whole
kept : (l : List Fraction) (q acc : Fraction) → AtMost q acc → AtMost q (sum_from acc l)
kept [] q acc h = h
kept (g ∷ l) q acc h =
    kept l q (acc ⊕ square g)
    (omega (arith, mul-le-mul_right (square g).over h, mul-le-mul_right (acc.over * q.over) (square_not_below g)))

square_from : (acc : Fraction) (l : List Fraction) → acc.minus ≤ acc.plus → (i : ℕ) (d : Fraction) → i < length l
    → AtMost (square (get_or l i d)) (sum_from acc l)
square_from acc [] h i d l = absurd (not-suc-le-zero l)
square_from acc (g ∷ l) h zero d i =
    kept l (square g) (acc ⊕ square g) (omega (arith, mul-le-mul_right ((square g).over * (square g).over) h))
square_from acc (g ∷ l) h (suc j) d i = square_from (acc ⊕ square g) l (step acc g h) j d (le_of_suc-le-suc i)

pub square_in_sum : (l : List Fraction) (i : ℕ) (d : Fraction) → i < length l
    → AtMost (square (get_or l i d)) (sum_squares l)
square_in_sum l i d h = square_from (whole 0) l (le_refl 0) i d h

-- ---- as an expression, added up from `acc`
abbrev pub squares_from : Expression → List Expression → Expression
squares_from acc [] = acc
squares_from acc (a ∷ l) = squares_from (acc +' a *' a) l
