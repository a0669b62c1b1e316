-- The laws of the defined sine and cosine, for the crates above: angles are fractions of degrees, of any size and under
-- any name, and no law asks on which side of 180 one lies, or whether it is a multiple of 90. `w` is either wave. Then
-- how the sums stand for them, for a program that computes those. Assumes nothing.
use Rattle.std.specs.Prelude.{◌∷◌, ◌+◌, ◌*◌, ◌^◌, ◌≤◌, ◌<◌}
use Rattle.lists.specs.Prelude.{subst, [], ℕ, suc, mul-pos, mul-le-mul_right, two-pow-succ, arith, lit<, lit≤, pow_pos}
use Rattle.lists.specs.Prelude.{pow_mono}
use Rattle.fractions.specs.Fraction.{Fraction, fraction, whole, unit, opposite, magnitude, square, ◌⊕◌, ◌⊖◌, Same}
use Rattle.fractions.specs.Fraction.{AtMost, Within}
use Rattle.fractions.specs.Squares.{sum_squares}
use Rattle.fractions.proofs.Restate.{zero-⊕, over_one}
use Rattle.fractions.proofs.Close.{Size, close_sym, close_trans}
use Rattle.fractions.proofs.Within.{within_close, close_within, counted_within, within_counted, within_same}
use Rattle.fractions.proofs.Within.{within_trans, within_weaken, size_at_most}
use Rattle.fractions.proofs.Divide.{least_near, near_not_below}
use Rattle.fractions.proofs.Roots.{quotient_size}
use Rattle.fractions.proofs.Sums.{square_in_sum}
use Rattle.series.specs.Sums.{Wave, sine, cosine}
use Rattle.series.specs.Angles.{reduced, defined, defined_sine, defined_cosine}
use Rattle.series.proofs.Places.{wave}
use Rattle.series.proofs.Least.{sine_least, reduced_not_below, square_least}
-- size: S^2 + C^2 = 1 up to 2 ^ -50
pub use Rattle.series.proofs.Places.{defined_number, defined_squares}
-- continuity: two angles that are E / W apart have values that are E / (4 W) + 2 ^ -52 apart at most
pub use Rattle.series.proofs.Continuity.{defined_close}
-- whole turns, and another name of the same angle: exact; the opposite angle: exact, at 180 too; 90 times a whole
-- number, which is what `is_multiple` accepts: exactly 0, 1 or -1
pub use Rattle.series.proofs.Turns.{defined_same, defined_turns, defined_opposite, defined_multiple}
pub use Rattle.series.proofs.Turns.{multiple_only}
-- quarter turns, up to 2 ^ -51
pub use Rattle.series.proofs.Quarters.{defined_quarter}
-- for a program that computes them: the sums stand for the defined values at the reduced angle, and go with it and with
-- its sign
pub use Rattle.series.proofs.Places.{defined_sum}
pub use Rattle.series.proofs.Continuity.{reduced_close}
pub use Rattle.series.proofs.Terms.{sum_number, sum_same, sum_opposite}

-- ---- size: |S|, |C| ≤ 1 + 2 ^ -50: the sums end, so that the squares of the two make up 1 only up to 2 ^ -50
abbrev pub defined_most : Fraction
defined_most = whole 1 ⊕ unit 50

-- each square is at most their sum, and that is 1 + 2 ^ -50 at most
pub defined_size : (w : Wave) (d : Fraction) → 0 < d.over → AtMost (magnitude (defined w d)) defined_most
defined_size w d D =
    let S = defined_sine d in
    let C = defined_cosine d in
    size_at_most
    (subst (λ (x : Fraction). Size (2 ^ 50) x (2 ^ 50 + 1)) (over_one (defined w d))
    (quotient_size {W = 2 ^ 50} {t = 1} {L = 2 ^ 50} (2 ^ 50 + 1) (defined w d) (whole 1) (square S ⊕ square C)
    (lit< tt) (lit≤ tt)
    (subst (λ (x : Fraction). AtMost (square (defined w d)) (x ⊕ square C)) (zero-⊕ (square S)) (one_of_two w))
    (close_sym (within_close (defined_squares d D))) (lit< tt) (record { least = lit≤ tt })))
  where
    one_of_two : (w : Wave) → AtMost (square (defined w d)) (sum_squares (defined_sine d ∷ defined_cosine d ∷ []))
    one_of_two sine = square_in_sum (defined_sine d ∷ defined_cosine d ∷ []) 0 (whole 0) (lit< tt)
    one_of_two cosine = square_in_sum (defined_sine d ∷ defined_cosine d ∷ []) 1 (whole 0) (lit< tt)

-- ---- continuity, in powers of two: a value near that at a rounded angle is near that at the exact one
module _ (w : Wave) {k : ℕ} {a b : Fraction} (l : k ≤ 50) where
  pub defined_carried : {x : Fraction} → Within (suc k) x (defined w a) → Within k a b → Within k x (defined w b)
  defined_carried g h =
      counted_within (mul-pos {m = 2 ^ 54} (lit< tt) (pow_pos k)) (enough (2 ^ k) (pow_mono l))
      (close_trans (within_counted (2 ^ 53) (rw (two-pow-succ k) (omega arith)) g)
      (defined_close w (pow_pos k) (within_close h)))
    where
      enough : (p : ℕ) → p ≤ 2 ^ 50 → (2 ^ 53 + (2 ^ 52 * 1 + 4 * p)) * p ≤ 2 ^ 54 * p
      enough p h = omega (arith, mul-le-mul_right p h)

-- ---- the cosine from below, as far as 90 degrees: it is the sine of what is left of a quarter turn

module _ (d : Fraction) (D : 0 < d.over) where
  abbrev rest : Fraction
  rest = whole 90 ⊖ d

  rest_pos : 0 < rest.over
  rest_pos = mul-pos {m = 1} (lit< tt) D

  -- 90 ⊖ d is -d ⊕ 90
  turned_round : Same (defined_sine rest) (defined_sine (opposite d ⊕ whole 90))
  turned_round = defined_same sine rest (opposite d ⊕ whole 90) rest_pos (mul-pos {n = 1} D (lit< tt)) (omega arith)

  cosine_of_rest : Within 51 (defined_cosine d) (defined_sine rest)
  cosine_of_rest =
      close_within
      (close_sym
      (within_close
      (within_same (defined_sine rest) (defined_cosine d) (defined_number sine rest rest_pos)
      (defined_number cosine d D)
      turned_round (defined_opposite cosine d D) (defined_quarter sine (opposite d) D))))

  -- at 0 up to 90 degrees it is not below 0, up to 2 ^ -50
  pub cosine_not_below : AtMost (whole 0) d → AtMost d (whole 90) → AtMost (opposite (unit 50)) (defined_cosine d)
  cosine_not_below l h =
      near_not_below (defined_cosine d) (wave sine (reduced rest))
      (within_close (within_trans {k = 50} cosine_of_rest (within_weaken (lit≤ tt) (defined_sum sine rest rest_pos))))
      (reduced_not_below rest rest_pos (omega arith) (omega arith))

  -- and at 0 up to 80 its square is 3 / 100 at least
  pub cosine_square_least : AtMost (whole 0) d → AtMost d (whole 80)
      → AtMost (fraction 3 0 100) (square (defined_cosine d))
  cosine_square_least l h =
      square_least (defined_cosine d) (defined_number cosine d D)
      (least_near {E = 1} 17362 (lit≤ tt) (within_counted 1 (lit≤ tt) cosine_of_rest)
      (sine_least rest rest_pos (omega arith) (omega arith)))
