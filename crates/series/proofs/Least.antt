-- The sine from below, as far as 90 degrees: from 10 degrees on it is 17363 / 100000 at least (the sine of 10 degrees
-- is 0.17364..), and from 0 on it is not below 0. Each is one computed number: expanded around the angle where it
-- begins, the sum lies above its first coefficient as far as 90 (`shortfall`). Assumes nothing.
use Rattle.std.specs.Prelude.{◌≡◌, ◌∷◌, ◌+◌, ◌-◌, ◌*◌, ◌/◌, ◌≤◌, ◌<◌}
use Rattle.lists.specs.Prelude.{refl, ap, subst, List, [], ℕ, zero-le, le_of_lt, mul-pos, one-mul, mul-le-mul_right}
use Rattle.lists.specs.Prelude.{le_of_mul-le-mul_left, arith, lit≤, lit<}
use Rattle.fractions.specs.Fraction.{Fraction, fraction, whole, square, Same, AtMost}
use Rattle.fractions.proofs.Order.{same_trans}
use Rattle.fractions.proofs.Close.{Size, Least}
use Rattle.fractions.proofs.Within.{within_counted, at_most_least, least_at_most}
use Rattle.fractions.proofs.Divide.{least_near, least_positive, least_unit, least_mul, least_same}
use Rattle.series.specs.Sums.{factorial, sine, sum}
use Rattle.series.specs.Angles.{reduced, radians, defined_sine}
use Rattle.series.proofs.Wholes.{Whole, more, less, ◌⊞◌, ◌⊟◌, ◌·◌, by_parts}
use Rattle.series.proofs.Polynomials.{power_of, power_pos, value, add, times, linear, shifted, value_constant}
use Rattle.series.proofs.Polynomials.{value_add, value_times, value_shifted}
use Rattle.series.proofs.Bounds.{shortfall, value_short}
use Rattle.series.proofs.Terms.{first, others, common, monomial, share, gathered, coefficients, quotient}
use Rattle.series.proofs.Terms.{numerator, sum_same, sum_number}
use Rattle.series.proofs.Sums.{half, quarter, parts, parts_pos, top, bottom, bottom_pos, sum_larger}
use Rattle.series.proofs.Reduction.{reduced_pos, reduced_itself}
use Rattle.series.proofs.Places.{radians_is, radians_pos, radians_quarter, wave, wave_pos, wave_same}
use Rattle.series.proofs.Places.{defined_sum}

-- ---- S(x) ≥ L / W, for x from a / parts to a quarter turn, which is r / parts more

-- W S(x + a / parts) - L, over 28! parts ^ 29
unfoldable surplus : ℕ → ℕ → ℕ → List Whole
surplus a W L = add (times (more W) (shifted a parts 29 (coefficients sine)))
    (less (L * common * power_of parts 29) ∷ [])

surplus_is : (a W L k : ℕ) (z : Whole) → value 29 (surplus a W L) z (k * parts) ≡ (W * power_of parts 29) · top sine
    (more (k * a) ⊞ z) k ⊞ less (L * bottom k * power_of parts 29)
unfolding surplus top bottom
surplus_is a W L k z =
    rw (
      value_add z (k * parts) 29 (times (more W) (shifted a parts 29 (coefficients sine)))
          (less (L * common * power_of parts 29) ∷ []),
      value_times z (k * parts) 29 (more W) (shifted a parts 29 (coefficients sine)),
      value_shifted a parts k 29 (coefficients sine) z,
      value_constant z (k * parts) 28 (less (L * common * power_of parts 29)),
    ) (by_parts (omega arith) (omega arith))

module _ (a r W L : ℕ) (none : shortfall 29 (surplus a W L) r parts ≡ 0) where
  least_top : (k : ℕ) (z : Whole) → z.minus ≤ z.plus → z.plus ≤ z.minus + k * r
      → (top sine (more (k * a) ⊞ z) k).minus * W + L * bottom k ≤ (top sine (more (k * a) ⊞ z) k).plus * W
  least_top k z l h =
      let v = top sine (more (k * a) ⊞ z) k in
      cancel v.plus v.minus (bottom k) (power_of parts 29) (power_of k 29) W L (power_pos parts 29 parts_pos)
      (rw (none, surplus_is a W L k z) at (value_short r parts k 29 (surplus a W L) z l h))
    where
      cancel : (p m N R K W L : ℕ) → 0 < R → W * R * m + L * N * R ≤ W * R * p + 0 + K * 0 → m * W + L * N ≤ p * W
      cancel p m N R K W L o h = le_of_mul-le-mul_left {k = R} (omega arith) o

  -- x is a / parts and z more
  module _ (x : Fraction) (X : 0 < x.over) (l : Least parts x a) (h : Size parts x quarter) (e : quarter ≡ a + r) where
    z : Whole
    z = parts · numerator x ⊟ more (x.over * a)

    renamed : Fraction
    renamed = quotient (more (x.over * a) ⊞ z) (x.over * parts)

    sum_least : Least W (sum sine x) L
    unfolding z renamed
    sum_least =
        let k = x.over in
        let N = bottom k in
        let Y : 0 < renamed.over = mul-pos X parts_pos in
        let v = top sine (more (k * a) ⊞ z) k in
        let i : Same (sum sine renamed) (quotient v N) = subst
        (λ (y : Whole). Same (sum sine renamed) (quotient (top sine y k) N)) (by_parts (one-mul _) (one-mul _))
        (sum_larger sine renamed Y 1 k (one-mul (k * parts))) in
        least_same (sum sine x) (quotient v N) (sum_number sine x X) (bottom_pos k X)
        (same_trans (sum sine x) (sum sine renamed) (quotient v N) (sum_number sine renamed Y)
        (sum_same sine x renamed (omega arith)) i)
        (record {
          least = least_top k z (omega (arith, l.least))
              (omega (arith, h.above, ap (λ (t : ℕ). x.over * t) e));
        })

-- ---- in degrees: from n to 90

radians_least : (d : Fraction) {n a : ℕ} → 180 * a ≤ n * half → Least 1 d n → Least parts (radians d) a
radians_least d k h = rw (radians_is d)
    (omega (arith, mul-le-mul_right (half * parts) h.least, mul-le-mul_right (d.over * parts) k))

module _ (d : Fraction) (D : 0 < d.over) (h : AtMost d (whole 90)) where
  reduced_least : (n a r W L : ℕ) → 180 * a ≤ n * half → quarter ≡ a + r → shortfall 29 (surplus a W L) r parts ≡ 0
      → AtMost (whole n) d → Least W (wave sine (reduced d)) L
  reduced_least n a r W L k e none l =
      let R = reduced_pos d D in
      least_same (wave sine (reduced d)) (wave sine d) (wave_pos sine (reduced d) R) (wave_pos sine d D)
      (wave_same sine (reduced d) d (reduced_itself d D (omega arith) (omega arith)))
      (sum_least a r W L none (radians d) (radians_pos d D) (radians_least d k (at_most_least l))
      (radians_quarter d (record { above = omega arith; below = omega arith })) e)

-- 10 degrees, cut to a whole number of parts, and from there to 90
unfoldable ten : ℕ
unfolding half
ten = half / 18

unfoldable reach : ℕ
unfolding quarter ten
reach = quarter - ten

ten_is : 180 * ten ≤ 10 * half
unfolding ten half
ten_is = lit≤ tt

reach_is : quarter ≡ ten + reach
unfolding half quarter ten reach
reach_is = refl

none_short : shortfall 29 (surplus ten 100000 17364) reach parts ≡ 0
unfolding shortfall surplus linear shifted coefficients gathered share monomial first others add times common factorial
    half quarter ten reach parts power_of
none_short = refl

none_below : shortfall 29 (surplus 0 1 0) quarter parts ≡ 0
unfolding shortfall surplus linear shifted coefficients gathered share monomial first others add times common factorial
    half quarter parts power_of
none_below = refl

module _ (d : Fraction) (D : 0 < d.over) where
  pub sine_least : AtMost (whole 10) d → AtMost d (whole 90) → Least 100000 (defined_sine d) 17363
  sine_least l h = least_near {E = 1} 17363 (lit≤ tt) (within_counted 1 (lit≤ tt) (defined_sum sine d D))
      (reduced_least d D h 10 ten reach 100000 17364 ten_is reach_is none_short l)

  pub reduced_not_below : AtMost (whole 0) d → AtMost d (whole 90) → AtMost (whole 0) (wave sine (reduced d))
  reduced_not_below l h = least_at_most (reduced_least d D h 0 0 quarter 1 0 zero-le (omega arith) none_below l)

-- ---- a square from below

pub square_least : (x : Fraction) → 0 < x.over → Least 100000 x 17362 → AtMost (fraction 3 0 100) (square x)
square_least x X h =
    let p = le_of_lt (least_positive (lit< tt) X h) in
    least_at_most (least_unit {W = 100000} 3 (lit< tt) (lit≤ tt) (least_mul 3000 (lit< tt) (lit≤ tt) p p h h))
