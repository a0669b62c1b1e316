-- The program's sums at a place on the turn: in units of 2 ^ -60 the sine is 119 away from the defined sum at that
-- place, and the cosine 85. Assumes nothing.
use Rattle.std.specs.Prelude.{◌≡◌, ◌+◌, ◌*◌, ◌/◌, ◌^◌, ◌≤◌, ◌<◌}
use Rattle.lists.specs.Prelude.{refl, subst, Bool, true, false, ℕ, le_trans, mul-le-mul_right, div-one, arith, ltb}
use Rattle.lists.specs.Prelude.{lit<, lit≤, pow_pos}
use Rattle.fractions.specs.Fraction.{Fraction, fraction, whole, opposite, square, signed, ◌⊗◌, ◌⊘◌}
use Rattle.fractions.proofs.Order.{same_refl, same_sym}
use Rattle.fractions.proofs.Restate.{over_one, ⊗-opposite}
use Rattle.fractions.proofs.Close.{Close, Size, close_same, close_opposite, size_wider, size_mul}
use Rattle.series.specs.Sums.{sine, cosine, sum}
use Rattle.series.specs.Angles as Defined
use Rattle.series.proofs.Laws.{sum_number}
use Rattle.series.proofs.Nested.{nested, sine_nested, cosine_nested}
use Rattle.angles.specs.Computed.{one, half, degree_units, times, radian_units, outermost, from_one}
use Rattle.angles.proofs.Fixed.{fixed, product_close, bracket_close}
use Rattle.angles.proofs.Room.{largest, radians_most, square_most, square_room, sine_rest_most}

-- ---- x, in radians: r units of 2 ^ -52 degree. The constants are variables: c for the degree, k for 180 d, p for
-- document 01's numerator, d for 10 ^ 18, u for 2 ^ 52, v for 2 ^ 68, o for 2 ^ 60
above_nat : (r x c k p u v o : ℕ) → x * o * (u * k) ≤ r * c * (u * k) → c * k * (r * u) ≤ p * v * (r * u)
    → r * p * (v * u) ≡ r * p * (o * o)
    → (x * (u * k) + (r * 0 + 0 * p) * o) * o ≤ ((r * p + 0 * 0) * o + 0 * (u * k)) * o + 2 * (o * (u * k))
above_nat r x c k p u v o f g e = omega arith

below_nat : (r x c k p u v o : ℕ) → r * c * (u * k) ≤ (x * o + o) * (u * k) → p * v * (r * u) ≤ (c * k + k) * (r * u)
    → r * (k * u) ≤ o * (k * u) → r * p * (v * u) ≡ r * p * (o * o)
    → (0 * (u * k) + (r * p + 0 * 0) * o) * o ≤ ((r * 0 + 0 * p) * o + x * (u * k)) * o + 2 * (o * (u * k))
below_nat r x c k p u v o f g h e = omega arith

unfoldable pub angle : ℕ → Fraction
angle r = Defined.radians (fraction r 0 (2 ^ 52))

angle_number : (r : ℕ) → 0 < (angle r).over
unfolding angle Defined.radians
angle_number r = lit< tt

radians_close : (r : ℕ) → r ≤ half → Close one (fixed (radian_units r)) (angle r) 2
unfolding angle radian_units times Defined.radians
radians_close r h =
    let k = (Defined.degree).over in
    let p = (Defined.degree).plus in
    let x = r * degree_units / one in
    record {
      first = pow_pos 60;
      second = lit< tt;
      above = above_nat r x degree_units k p (2 ^ 52) (2 ^ 68) one (mul-le-mul_right (2 ^ 52 * k) (omega arith))
          (mul-le-mul_right (r * 2 ^ 52) (lit≤ tt)) refl;
      below = below_nat r x degree_units k p (2 ^ 52) (2 ^ 68) one (mul-le-mul_right (2 ^ 52 * k) (omega arith))
          (mul-le-mul_right (r * 2 ^ 52) (lit≤ tt)) (mul-le-mul_right {n = one} (k * 2 ^ 52) (le_trans h (lit≤ tt)))
          refl;
    }

-- ---- how large: the exact x is at most what the program's is

most_nat : (r p d u o m : ℕ) → r * (p * o) ≤ 180 * u * (p * o) → 180 * u * (p * o) ≤ 180 * u * (m * d)
    → (r * p + 0 * 0) * o ≤ (r * 0 + 0 * p) * o + m * (u * (180 * d))
most_nat r p d u o m h k = omega arith

angle_size : (r : ℕ) → r ≤ half → Size one (angle r) largest
unfolding angle Defined.radians
angle_size r h =
    let p = (Defined.degree).plus in
    record {
      above = most_nat r p (10 ^ 18) (2 ^ 52) one largest (mul-le-mul_right (p * one) h) (lit≤ tt);
      below = none_nat r p one _;
    }
  where
    none_nat : (r p o a : ℕ) → (r * 0 + 0 * p) * o ≤ a
    none_nat r p o a = omega arith

-- ---- x squared

undivided : {v e : ℕ} {x : Fraction} → Close one (fixed (v / 1)) (x ⊘ whole 1) e → Close one (fixed v) x e
undivided {v} {e} {x} c = rw (← over_one x) (subst (λ (n : ℕ). Close one (fixed n) (x ⊘ whole 1) e) (div-one v) c)

module _ (r : ℕ) (h : r ≤ half) where
  x : ℕ
  x = radian_units r

  y : ℕ
  y = times x x

  x_most : x ≤ 4 * one
  unfolding x
  x_most = le_trans (radians_most r h) (lit≤ tt)

  y_most : y ≤ 12 * one
  unfolding x y
  y_most = square_most (radian_units r) (square_room (radian_units r) (radians_most r h))

  square_close : Close one (fixed y) (square (angle r)) 17
  unfolding x y times
  square_close = undivided (product_close 1 4 4 16 (lit< tt) x_most (size_wider (angle_size r h) (lit≤ tt)) (lit≤ tt)
      (radians_close r h) (radians_close r h))

  square_size : Size one (square (angle r)) (10 * one)
  square_size = size_mul (10 * one) (pow_pos 60) (lit≤ tt) (angle_size r h) (angle_size r h)

-- ---- the cosine is the bracket, and the sine x times it

module _ (r : ℕ) (h : r ≤ half) where
  product : (v : ℕ) (z : Fraction) → v ≤ one → Close one (fixed v) z 29
      → Close one (fixed (times (radian_units r) v)) (angle r ⊗ z) 119
  unfolding times
  product v z m d = undivided (product_close 1 4 1 118 (lit< tt) (omega (arith, m))
      (size_wider (angle_size r h) (lit≤ tt)) (lit≤ tt) (radians_close r h) d)

  -- of either sign
  signed_product : (b : Bool) (v : ℕ) (z : Fraction) → v ≤ one → Close one (signed b v one) z 29
      → Close one (signed b (times (radian_units r) v) one) (angle r ⊗ z) 119
  signed_product false v z m d = product v z m d
  signed_product true v z m d = close_opposite
      (subst (λ (q : Fraction). Close one (fixed (times (radian_units r) v)) q 119) (⊗-opposite (angle r) z)
      (product v (opposite z) m (close_opposite d)))

  pub cosine_close : Close one
      (signed (ltb one (outermost (radian_units r) 26)) (from_one (outermost (radian_units r) 26))
      one)
      (sum cosine (angle r)) 85
  unfolding x y
  cosine_close =
      let Y = square (angle r) in
      close_same _ (sum cosine (angle r)) (pow_pos 60) (sum_number cosine (angle r) (angle_number r)) (same_refl _)
      (same_sym (sum cosine (angle r)) (nested Y 0 14) (cosine_nested (angle r) (angle_number r)))
      (bracket_close (y r h) Y (square_close r h) (square_size r h) (y_most r h) 0 13 84 (lit≤ tt))

  pub sine_close : Close one (signed (ltb one (outermost (radian_units r) 25))
      (times (radian_units r) (from_one (outermost (radian_units r) 25))) one) (sum sine (angle r)) 119
  unfolding x y
  sine_close =
      let Y = square (angle r) in
      let g = outermost (radian_units r) 25 in
      close_same _ (sum sine (angle r)) (pow_pos 60) (sum_number sine (angle r) (angle_number r)) (same_refl _)
      (same_sym (sum sine (angle r)) (angle r ⊗ nested Y 1 13) (sine_nested (angle r) (angle_number r)))
      (signed_product (ltb one g) (from_one g) (nested Y 1 13) (sine_rest_most (radian_units r) (radians_most r h))
      (bracket_close (y r h) Y (square_close r h) (square_size r h) (y_most r h) 1 12 28 (lit≤ tt)))
