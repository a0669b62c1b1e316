-- A number over a root, as a program computes it, is `BySquares` of G / √S: from an expression for it
-- (`run_by_squares`), and as one float divided by another where G² ≤ S, so that the quotient is 1 at most, and a little
-- (`normalised`), or times the inverse of one (`over_root`). The root enters by its law (`RootOf`, which a correctly
-- rounded root has with P = 2 ^ prec), for s the float whose root was taken, itself near S (`root_near`). Assumes
-- nothing.
use Rattle.std.specs.Prelude.{◌≡◌, ◌&&◌, ◌∷◌, ◌+◌, ◌-◌, ◌*◌, ◌^◌, ◌≤◌, ◌<◌}
use Rattle.lists.specs.Prelude.{Bool, false, List, [], ℕ, le_trans, mul-pos, mul-le-mul_right, T, leb, ltb, leb→le}
use Rattle.lists.specs.Prelude.{ltb→lt, lit<, lit≤, Float, Format, binary64, fits, round, mul, div}
use lib.Ieee.Fits.{and_l, and_r}
use lib.Ieee.Positive.{positive, first_pos}
use Rattle.lists.proofs.Tests.{all, each_holds}
use Rattle.fractions.specs.Fraction.{Fraction, whole, number, square, ◌⊘◌, Less, AtMost}
use Rattle.fractions.proofs.Approximates.{Approximates}
use Rattle.fractions.specs.Squares.{BySquares}
use Rattle.fractions.proofs.Order.{same_refl, not_below_lem, zero_at_most}
use Rattle.fractions.proofs.Restate.{inverse}
use Rattle.fractions.proofs.Within.{whole_size, whole_least}
use Rattle.fractions.proofs.Close.{Close, Least, same_close, close_trans, ceiling, ceiling_ge}
use Rattle.fractions.proofs.Rounding.{fine}
use Rattle.fractions.proofs.Operations.{positive_number, div_result}
use Rattle.fractions.proofs.Exact.{result_not_below}
use Rattle.fractions.proofs.Near.{Near, near_size, near_div, quotient_result, quotient_error}
use Rattle.fractions.proofs.Expression.{Expression, held, ◌*'◌, ◌/'◌, run, exact, scale, bound, sound, value}
use Rattle.fractions.proofs.Expression.{divisor}
use Rattle.fractions.proofs.Squares.{squares_fine, by_squares}
use Rattle.fractions.proofs.Roots.{RootOf, root_square, root_least, quotient_size}

-- ---- r² is near S, where r is the root of s to one part in P and s is near S
abbrev pub root_error : ℕ → ℕ → ℕ → ℕ
root_error P M E = ceiling (3 * (M + E)) P + E

pub root_near : {W M E : ℕ} {s S : Fraction} (P : ℕ) (r : Fraction) → 5 ≤ P → RootOf P r s → Near W s S M E
    → Close W (square r) S (root_error P M E)
root_near {W} {M} {E} P r h a n = close_trans
    (root_square (ceiling (3 * (M + E)) P) h (ceiling_ge (3 * (M + E)) P (le_trans (lit< tt) h)) a (near_size n))
    n.close

-- ---- from an expression
run_by_squares : (f : Format) (k t L : ℕ) (a : Expression) (G r S : Fraction) → exact a ≡ G ⊘ r
    → T ((bound f a).good && squares_fine scale k (bound f a).most (bound f a).error t L)
    → Close scale (square r) S t → Least scale r L → BySquares k (number (run f a)) G S
run_by_squares f k t L a G r S e h c l =
    let i = (bound f a).good in
    let j = squares_fine scale k (bound f a).most (bound f a).error t L in
    by_squares k (number (run f a)) G r S (and_r i j h)
    (rw (← e) (sound f a (and_l i j h)).near) c l

-- ---- x * (1.0 / r), r the root of n = 1 .. 16 to one part in 2 ^ 53: in units of 1 / scale, r² is `off` from n at
-- most, and r is `least` at least
abbrev pub off : ℕ
off = 2 ^ 53

abbrev pub least : ℕ
least = scale - 2 ^ 54

module _ {bits : ℕ} {most : Fraction} {x : Float} {a : Fraction} (r : Float) (n : ℕ) (s : Approximates bits most x a)
    (one : 1 ≤ n) (top : n ≤ 16) (root : RootOf (2 ^ 53) (number r) (whole n)) (fit : T (fits binary64 r)) where
  near_n : Close scale (square (number r)) (whole n) off
  near_n = root_square off (lit≤ tt) (lit≤ tt) root (whole_size scale n top)

  pub above_least : Least scale (number r) least
  above_least = root_least least (lit≤ tt) root.positive near_n (whole_least scale n one)

  abbrev pub over : Expression
  over = value s *' (held false 1 0 /' divisor binary64 least r root.root fit above_least)

  pub over_root : (k : ℕ) → T ((bound binary64 over).good && squares_fine scale k (bound binary64 over).most
      (bound binary64 over).error off least)
      → BySquares k (number (mul binary64 x (div binary64 (round binary64 false 1 1) r))) a (whole n)
  over_root k t =
      run_by_squares binary64 k off least over a (number r) (whole n) (inverse a (number r)) t near_n above_least

-- ---- one float over another. The numbers, in units of 1 / scale: |G| ≤ N and the float is E off; S ≥ b, r² is t off
-- S, r ≥ L; |G| / r ≤ M
abbrev normal_tests : Format → (k N E M t L b : ℕ) → List Bool
normal_tests f k N E M t L b =
    ltb 0 L
    ∷ leb (L * L + t * scale) (b * scale)
    ∷ leb (scale * scale * (L * L) + t * (scale * scale * scale)) (M * M * (L * L))
    ∷ fine f scale (quotient_result scale N E L 0)
    ∷ squares_fine scale k M (quotient_error f scale N E L 0) t L
    ∷ []

abbrev pub normal : Format → (k N E M t L b : ℕ) → Bool
normal f k N E M t L b = all (normal_tests f k N E M t L b)

pub normalised : (f : Format) (k : ℕ) {N E t b : ℕ} (M L : ℕ) (g r : Float) (G S : Fraction)
    → T (normal f k N E M t L b) → Near scale (number g) G N E → Less (whole 0) (number r)
    → Close scale (square (number r)) S t → Least scale S b → AtMost (square G) S → BySquares k (number (div f g r)) G S
normalised f k {N} {E} {t} {b} M L g r G S h n p c s u =
    let (some, (root, (most, (fine, (squares, end))))) = each_holds (normal_tests f k N E M t L b) h in
    let lp = ltb→lt 0 L some in
    let D>0 = first_pos (number r).over (number r).over c.first in
    let l = root_least L (leb→le _ _ root) p c s in
    let m = quotient_size M G (number r) S lp (leb→le _ _ most) u c D>0 l in
    let q = near_div f g r n (same_close scale (number r) (number r) D>0 D>0 (same_refl (number r))) l lp fine in
    by_squares k (number (div f g r)) G (number r) S squares (record { close = q.close; size = m }) c l

-- such a gain is not below 0 where the raw gain is not
pub quotient_not_below : (f : Format) (g r : Float) → 0 < (number g).over → T (positive r) → AtMost (whole 0) (number g)
    → AtMost (whole 0) (number (div f g r))
quotient_not_below f g r X t h =
    zero_at_most (number (div f g r))
    (result_not_below f (mul-pos X (positive_number r t)) (div_result f g r X t)
    (mul-le-mul_right (number r).over (not_below_lem (number g) h)))
