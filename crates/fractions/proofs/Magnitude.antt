-- Magnitudes: |x| ≤ l says -l ≤ x ≤ l, |x| is x or -x by the sign, ||x| - |y|| ≤ |x - y|, and |x|² is x². So a law for
-- numbers that are not below zero serves numbers of either sign. Assumes nothing.
use Rattle.std.specs.Prelude.{◌≡◌, ◌+◌, ◌*◌, ◌≤◌, ◌<◌}
use Rattle.lists.specs.Prelude.{ap, ℕ, le_trans, le_of_eq, le-add_left, arith}
use Rattle.fractions.specs.Fraction.{Fraction, whole, opposite, magnitude, square, Same, Less, AtMost, gap}
use Rattle.fractions.proofs.Order.{not_below_lem, by_gap}
use Rattle.fractions.proofs.Close.{Close}

-- ---- from -l to l
between_nat : (xp xm xo lp lm lo : ℕ) → lm * xo + xm * lo ≤ xp * lo + lp * xo → xp * lo + lm * xo ≤ lp * xo + xm * lo
    → gap xp xm * lo + lm * xo ≤ lp * xo + 0 * lo
between_nat xp xm xo lp lm lo =
    by_gap (λ (p m i : ℕ). lm * xo + m * lo ≤ p * lo + lp * xo → p * lo + lm * xo ≤ lp * xo + m * lo
    → i * lo + lm * xo ≤ lp * xo + 0 * lo) (λ m i h k. omega arith) (λ p i h k. omega arith) xp xm

below_nat : (xp xm xo lp lm lo : ℕ) → gap xp xm * lo + lm * xo ≤ lp * xo + 0 * lo
    → (lm * xo + xm * lo ≤ xp * lo + lp * xo) × (xp * lo + lm * xo ≤ lp * xo + xm * lo)
below_nat xp xm xo lp lm lo =
    by_gap (λ (p m i : ℕ). i * lo + lm * xo ≤ lp * xo + 0 * lo → (lm * xo + m * lo ≤ p * lo + lp * xo)
    × (p * lo + lm * xo ≤ lp * xo + m * lo)) (λ m i h. (omega arith, omega arith))
    (λ p i h. (omega arith, omega arith)) xp xm

module _ (x l : Fraction) where
  pub between_magnitude : AtMost (opposite l) x → AtMost x l → AtMost (magnitude x) l
  between_magnitude = between_nat x.plus x.minus x.over l.plus l.minus l.over

  pub magnitude_above_lem : AtMost (magnitude x) l → AtMost (opposite l) x
  magnitude_above_lem h = (below_nat x.plus x.minus x.over l.plus l.minus l.over h).0

  pub magnitude_below_lem : AtMost (magnitude x) l → AtMost x l
  magnitude_below_lem h = (below_nat x.plus x.minus x.over l.plus l.minus l.over h).1

-- ---- by the sign
turned_nat : (p m o : ℕ) → p < m → m * o + 0 * o ≡ gap p m * o + p * o
turned_nat p m o h = let e : m ≡ gap p m + p = omega arith in omega (arith, ap (λ (n : ℕ). n * o) e)

left_nat : (p m o : ℕ) → m ≤ p → p * o + 0 * o ≡ gap p m * o + m * o
left_nat p m o h = let e : p ≡ gap p m + m = omega arith in omega (arith, ap (λ (n : ℕ). n * o) e)

module _ (x : Fraction) where
  pub magnitude_turned : Less x (whole 0) → Same (opposite x) (magnitude x)
  magnitude_turned h = turned_nat x.plus x.minus x.over (omega arith)

  pub magnitude_left : AtMost (whole 0) x → Same x (magnitude x)
  magnitude_left h = left_nat x.plus x.minus x.over (not_below_lem x h)

-- ---- ||x| - |y||: x is ±i over o, y is ±j over u
module _ (o u W D : ℕ) where
  abbrev Kept : ℕ → ℕ → ℕ → ℕ → ℕ → ℕ → Type 0
  Kept p m i q n j = (p * u + n * o) * W ≤ (q * o + m * u) * W + D → (m * u + q * o) * W ≤ (n * o + p * u) * W + D
      → ((i * u + 0 * o) * W ≤ (j * o + 0 * u) * W + D) × ((0 * u + j * o) * W ≤ (0 * o + i * u) * W + D)

  kept : (p m q n : ℕ) → Kept p m (gap p m) q n (gap q n)
  kept p m q n =
      by_gap (λ (p m i : ℕ). Kept p m i q n (gap q n))
      (λ m i. by_gap (λ (q n j : ℕ). Kept (m + i) m i q n j) (λ n j h k. (omega arith, omega arith))
      (λ q j h k. (omega arith, omega arith)) q n)
      (λ p i. by_gap (λ (q n j : ℕ). Kept p (p + i) i q n j) (λ n j h k. (omega arith, omega arith))
      (λ q j h k. (omega arith, omega arith)) q n)
      p m

pub close_magnitude : {W E : ℕ} {x y : Fraction} → Close W x y E → Close W (magnitude x) (magnitude y) E
close_magnitude {W} {E} {x} {y} h =
    let s = kept x.over y.over W (E * (x.over * y.over)) x.plus x.minus y.plus y.minus h.above
    h.below in
    record { first = h.first; second = h.second; above = s.0; below = s.1 }

-- |p - m|² is p² + m² - 2 p m
pub square_nat : (p m : ℕ) → gap p m * gap p m + (p * m + m * p) ≡ p * p + m * m
square_nat p m =
    by_gap (λ (p m i : ℕ). i * i + (p * m + m * p) ≡ p * p + m * m) (λ m i. omega arith) (λ p i. omega arith) p m

pub square_not_below : (x : Fraction) → (square x).minus ≤ (square x).plus
square_not_below x = le_trans (le-add_left (x.plus * x.minus + x.minus * x.plus)
    (gap x.plus x.minus * gap x.plus x.minus)) (le_of_eq (square_nat x.plus x.minus))
