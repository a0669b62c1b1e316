-- The laws of the two sums at fractions of radians, up to half a turn: how steep they are, that the sum of their
-- squares is 1, and what a quarter turn more makes of them. P is half a turn. Assumes nothing.
use Rattle.std.specs.Prelude.{◌≡◌, ◌∷◌, ◌+◌, ◌*◌, ◌/◌, ◌^◌, ◌≤◌, ◌<◌}
use Rattle.lists.specs.Prelude.{refl, ap, ◌∙◌, subst, List, [], ℕ, mul-pos, one-mul, mul_right_comm, mul-le-mul_left}
use Rattle.lists.specs.Prelude.{mul-le-mul_right, le_of_mul-le-mul_left, arith, lit≤, lit<}
use Rattle.fractions.specs.Fraction.{Fraction, fraction, whole, opposite, square, ◌⊕◌, Same, Within}
use Rattle.fractions.proofs.Ring.{ring}
use Rattle.fractions.proofs.Order.{same_sym, same_trans, same_add}
use Rattle.fractions.proofs.Restate.{same_opposite, same_square}
use Rattle.fractions.proofs.Close.{Close, Size, close_same}
use Rattle.fractions.proofs.Within.{close_within}
use Rattle.series.specs.Angles.{degree}
use Rattle.series.specs.Sums.{factorial, Wave, sine, cosine, sum}
use Rattle.series.proofs.Wholes.{Whole, more, less, ◌⊞◌, ◌⊟◌, ◌⊠◌, ◌·◌, size, Bounded, by_parts, bounded_scale}
use Rattle.series.proofs.Polynomials.{power_of, power_pos, power_times, power_further, further, value, add}
use Rattle.series.proofs.Polynomials.{times, product, Fits, linear, shifted, value_larger, value_constant}
use Rattle.series.proofs.Polynomials.{value_add, value_times, value_product, value_shifted}
use Rattle.series.proofs.Bounds.{most, value_size, steepest, value_steep}
use Rattle.series.proofs.Terms.{first, others, common, common_pos, monomial, share, gathered, coefficients}
use Rattle.series.proofs.Terms.{quotient, numerator, valued, valued_pos, sum_number, sum_valued}

-- document 01's half turn is half / parts, and a quarter turn quarter / parts
unfoldable pub half : ℕ
half = degree.plus

unfoldable pub parts : ℕ
parts = degree.over / 180

unfoldable pub quarter : ℕ
unfolding half
quarter = half / 2

pub parts_pos : 0 < parts
unfolding parts
parts_pos = lit< tt

-- half a turn at most, either way
abbrev pub Half : Fraction → Type 0
Half x = Size parts x half

-- ---- a sum over the denominator k * parts, k being f times that of x

abbrev numerator_by : ℕ → Fraction → Whole
numerator_by f x = (f * parts) · numerator x

unfoldable pub top : Wave → Whole → ℕ → Whole
top w z k = value 29 (coefficients w) z (k * parts)

unfoldable pub bottom : ℕ → ℕ
bottom k = common * power_of (k * parts) 29

pub bottom_pos : (k : ℕ) → 0 < k → 0 < bottom k
unfolding bottom
bottom_pos k h = mul-pos common_pos (power_pos (k * parts) 29 (mul-pos h parts_pos))

pub sum_larger : (w : Wave) (x : Fraction) → 0 < x.over → (e k : ℕ) → e * x.over ≡ k * parts
    → Same (sum w x) (quotient (top w (e · numerator x) k) (bottom k))
unfolding top bottom valued
sum_larger w x X e k i =
    let cs = coefficients w in
    let d = x.over in
    let v = value 29 cs (numerator x) d in
    subst (λ (n : ℕ). Same (sum w x) (quotient (value 29 cs (e · numerator x) n) (common * power_of n 29))) i
    (same_trans (sum w x) (valued cs x)
    (quotient (value 29 cs (e · numerator x) (e * d)) (common * power_of (e * d) 29))
    (valued_pos x X cs) (sum_valued x X w)
    (rw (value_larger e 29 cs (numerator x) d, power_times e d 29) (omega arith)))

sum_over : (w : Wave) (x : Fraction) → 0 < x.over → (f k : ℕ) → f * x.over ≡ k
    → Same (sum w x) (quotient (top w (numerator_by f x) k) (bottom k))
sum_over w x X f k i = sum_larger w x X (f * parts) k (mul_right_comm f parts x.over ∙ ap (λ (n : ℕ). n * parts) i)

reached : {a : ℕ} (x : Fraction) (f k : ℕ) → f * x.over ≡ k → Size parts x a → Bounded (numerator_by f x) (k * a)
reached {a} x f k i h = rw (← i) (omega (arith, mul-le-mul_right f h.above, mul-le-mul_right f h.below))

-- ---- how steep: |S(x) - S(y)| ≤ 12 |x - y|, and so for C

steepest_is : (w : Wave) → steepest 29 (coefficients w) half parts * parts ≤ 12 * (common * power_of parts 29)
unfolding steepest most size coefficients gathered share monomial first others add times common factorial half parts
    power_of
steepest_is sine = lit≤ tt
steepest_is cosine = lit≤ tt

steep_step : (P f g k t K R L : ℕ) (v : Whole) → L * P ≤ g * (f * R) → Bounded (k · v) (t * (K * L))
    → Bounded ((k * P) · v) (g * t * (f * (K * R)))
steep_step P f g k t K R L v h s = omega (arith, bounded_scale P (k · v) (t * (K * L)) s, mul-le-mul_left (t * K) h)

steep : (w : Wave) (k t : ℕ) (x y : Whole) → Bounded x (k * half) → Bounded y (k * half) → Bounded (x ⊟ y) t
    → Bounded ((k * parts) · (top w x k ⊟ top w y k)) (12 * t * bottom k)
unfolding top bottom
steep w k t x y h g s =
    rw (power_times k parts 29)
    (steep_step parts common 12 k t (power_of k 29) (power_of parts 29) (steepest 29 (coefficients w) half parts)
    (value 29 (coefficients w) x (k * parts) ⊟ value 29 (coefficients w) y (k * parts))
    (steepest_is w) (value_steep half parts k t 29 (coefficients w) x y h g s))

apart_bounded : {W E : ℕ} {x y : Fraction} → Close W x y E
    → Bounded (numerator_by (y.over * W) x ⊟ numerator_by (x.over * W) y) (parts * (E * (x.over * y.over)))
apart_bounded c = omega (arith, mul-le-mul_right parts c.above, mul-le-mul_right parts c.below)

-- what is left of both sides where their common factor is gone
steep_nat : (up um vp vm D P W E N : ℕ) → D * W * P * (up + vm) ≤ D * W * P * (um + vp) + 12 * (P * (E * D)) * N
    → D * P * ((up * N + vm * N) * W) ≤ D * P * ((vp * N + um * N) * W + 12 * E * (N * N))
steep_nat up um vp vm D P W E N h = let h' = simp ring at (mul-le-mul_left N h) in simp ring (omega arith)

module _ (w : Wave) {W E : ℕ} {x y : Fraction} (o : 0 < W) where
  pub sum_close : Half x → Half y → Close W x y E → Close W (sum w x) (sum w y) (12 * E)
  sum_close h g c =
      let d = x.over in
      let e = y.over in
      let k = d * e * W in
      let i : e * W * d ≡ k = simp ring in
      let j : d * W * e ≡ k = simp ring in
      let u = top w (numerator_by (e * W) x) k in
      let v = top w (numerator_by (d * W) y) k in
      let N = bottom k in
      let D : 0 < d * e = mul-pos c.first c.second in
      let N-pos : 0 < N = bottom_pos k (mul-pos D o) in
      let s = steep w k (parts * (E * (d * e))) (numerator_by (e * W) x) (numerator_by (d * W) y)
      (reached x (e * W) k i h) (reached y (d * W) k j g) (apart_bounded c) in
      close_same (sum w x) (sum w y) (sum_number w x c.first) (sum_number w y c.second)
      (sum_over w x c.first (e * W) k i)
      (same_sym (sum w y) (quotient v N) (sum_over w y c.second (d * W) k j))
      (record {
        first = N-pos;
        second = N-pos;
        above = le_of_mul-le-mul_left (steep_nat u.plus u.minus v.plus v.minus (d * e) parts W E N s.up)
            (mul-pos D parts_pos);
        below = le_of_mul-le-mul_left
            (steep_nat u.minus u.plus v.minus v.plus (d * e) parts W E N s.down) (mul-pos D parts_pos);
      })

-- ---- the sum of the squares is 1, for |x| ≤ P

fits : (w : Wave) → Fits 29 (coefficients w)
unfolding Fits coefficients gathered share monomial first others add times
fits sine = tt
fits cosine = tt

-- S^2 + C^2 - 1, over the square of 28!
unfoldable circle : List Whole
circle = add (add (product (coefficients sine) (coefficients sine))
    (product (coefficients cosine) (coefficients cosine))) (less (common * common) ∷ [])

circle_small : 2 ^ 50 * most 58 circle half parts ≤ common * common * power_of parts 58
unfolding circle product most size coefficients gathered share monomial first others add times common factorial half
    parts power_of
circle_small = lit≤ tt

value_waves : (v w : Wave) (k : ℕ) (z : Whole) → value 58 (product (coefficients v) (coefficients w)) z (k * parts)
    ≡ top v z k ⊠ top w z k
unfolding top further
value_waves v w k z = value_product z (k * parts) 29 29 (coefficients v) (coefficients w) (fits v) (fits w)

circle_is : (k : ℕ) (z : Whole) → value 58 circle z (k * parts) ≡ top sine z k ⊠ top sine z k ⊞ top cosine z k ⊠ top
    cosine z k ⊟ more (bottom k * bottom k)
unfolding circle further bottom
circle_is k z =
    let d : ℕ = k * parts in
    let s : List Whole = product (coefficients sine) (coefficients sine) in
    let c : List Whole = product (coefficients cosine) (coefficients cosine) in
    rw (
      value_add z d 58 (add s c) (less (common * common) ∷ []),
      value_add z d 58 s c,
      value_waves sine sine k z,
      value_waves cosine cosine k z,
      value_constant z d 57 (less (common * common)),
      power_further d 29 29,
    ) (by_parts (omega arith) (omega arith))

small_step : (e a f q K R w : ℕ) (v : Whole) → w ≡ q * q → w ≡ K * R → e * a ≤ f * f * R → Bounded v (K * a)
    → Bounded (e · v) (f * q * (f * q))
small_step e a f q K R w v i j h s = omega (
  arith,
  ap (λ (t : ℕ). f * f * t) i,
  ap (λ (t : ℕ). f * f * t) j,
  mul-le-mul_left K h,
  bounded_scale e v (K * a) s,
)

squares : (k : ℕ) (z : Whole) → Bounded z (k * half) → Bounded
    ((2 ^ 50) · (top sine z k ⊠ top sine z k ⊞ top cosine z k ⊠ top cosine z k ⊟ more (bottom k * bottom k)))
    (bottom k * bottom k)
unfolding bottom further
squares k z h =
    rw (circle_is k z) at
    (small_step (2 ^ 50) (most 58 circle half parts) common (power_of (k * parts) 29) (power_of k 58)
    (power_of parts 58)
    (power_of (k * parts) 58) (value 58 circle z (k * parts))
    (power_further (k * parts) 29 29) (power_times k parts 58) circle_small (value_size half parts k 58 circle z h))

module _ (x : Fraction) (X : 0 < x.over) (h : Half x) where
  pub sum_squares_lem : Within 50 (square (sum sine x) ⊕ square (sum cosine x)) (whole 1)
  sum_squares_lem =
      let k = x.over in
      let z = numerator_by 1 x in
      let s = top sine z k in
      let c = top cosine z k in
      let N = bottom k in
      let o : 0 < N = bottom_pos k X in
      let q = squares k z (reached x 1 k (one-mul k) h) in
      let i : Same (sum sine x) (quotient s N) = sum_over sine x X 1 k (one-mul k) in
      let j : Same (sum cosine x) (quotient c N) = sum_over cosine x X 1 k (one-mul k) in
      let S = sum_number sine x X in
      let C = sum_number cosine x X in
      let n : Close (2 ^ 50) (square (quotient s N) ⊕ square (quotient c N)) (whole 1) 1 = record {
        first = mul-pos (mul-pos o o) (mul-pos o o);
        second = lit< tt;
        above = omega (arith, mul-le-mul_left (N * N) q.up);
        below = omega (arith, mul-le-mul_left (N * N) q.down);
      } in
      close_within
      (close_same (square (sum sine x) ⊕ square (sum cosine x)) (whole 1) (mul-pos (mul-pos S S) (mul-pos C C))
      (lit< tt)
      (same_add (square (sum sine x)) (square (quotient s N)) (square (sum cosine x)) (square (quotient c N))
      (same_square (sum sine x) (quotient s N) i) (same_square (sum cosine x) (quotient c N) j)) refl n)

-- ---- a quarter turn more: S(P / 2 + x) is C(x), and C(P / 2 + x) is -S(x), for |x| ≤ P / 2

-- what a quarter turn more makes of the two
abbrev pub after : Wave → (Wave → Fraction) → Fraction
after sine f = f cosine
after cosine f = opposite (f sine)

abbrev pub quarter_turn : Fraction
quarter_turn = fraction quarter 0 parts

-- the other wave, and what it is to be taken times so that the sum of the two is the difference
abbrev other : Wave → Wave
other sine = cosine
other cosine = sine

abbrev against : Wave → Whole
against sine = less 1
against cosine = more 1

-- that difference, of a sum at x + quarter / parts and what it is to be, times parts ^ 29
unfoldable apart : Wave → List Whole
apart w = add (shifted quarter parts 29 (coefficients w))
    (times (power_of parts 29 · against w) (coefficients (other w)))

apart_small : (w : Wave) → 2 ^ 54 * most 29 (apart w) quarter parts ≤ common * power_of parts 29 * power_of parts 29
unfolding apart shifted linear most size coefficients gathered share monomial first others add times common factorial
    quarter parts power_of
apart_small sine = lit≤ tt
apart_small cosine = lit≤ tt

apart_is : (w : Wave) (k : ℕ) (z : Whole) → value 29 (apart w) z (k * parts) ≡ power_of parts 29 ·
    (top w (more (k * quarter) ⊞ z) k ⊞ against w ⊠ top (other w) z k)
unfolding apart top
apart_is w k z =
    let us = coefficients w in
    let vs = coefficients (other w) in
    let c = power_of parts 29 · against w in
    rw (
      value_add z (k * parts) 29 (shifted quarter parts 29 us) (times c vs),
      value_shifted quarter parts k 29 us z,
      value_times z (k * parts) 29 c vs,
    ) (by_parts (omega arith) (omega arith))

cancelled : (e a f K R : ℕ) (v : Whole) → 0 < R → e * a ≤ f * R * R → Bounded (R · v) (K * a)
    → Bounded (e · v) (f * (K * R))
cancelled e a f K R v o h s = record {
  up = le_of_mul-le-mul_left {k = R} (omega (arith, mul-le-mul_left K h, bounded_scale e (R · v) (K * a) s)) o;
  down = le_of_mul-le-mul_left {k = R} (omega (arith, mul-le-mul_left K h, bounded_scale e (R · v) (K * a) s)) o;
}

quartered : (w : Wave) (k : ℕ) (z : Whole) → Bounded z (k * quarter)
    → Bounded ((2 ^ 54) · (top w (more (k * quarter) ⊞ z) k ⊞ against w ⊠ top (other w) z k)) (bottom k)
unfolding bottom
quartered w k z h =
    rw (power_times k parts 29)
    (cancelled (2 ^ 54) (most 29 (apart w) quarter parts) common (power_of k 29) (power_of parts 29)
    (top w (more (k * quarter) ⊞ z) k ⊞ against w ⊠ top (other w) z k) (power_pos parts 29 parts_pos)
    (apart_small w)
    (rw (apart_is w k z) at (value_size quarter parts k 29 (apart w) z h)))

module _ (x : Fraction) (X : 0 < x.over) (h : Size parts x quarter) where
  shift_is : 1 · numerator (quarter_turn ⊕ x) ≡ more (x.over * quarter) ⊞ numerator_by 1 x
  shift_is = by_parts (omega arith) (omega arith)

  sum_quarter_over : (w : Wave) → Same (sum w (quarter_turn ⊕ x))
      (quotient (top w (more (x.over * quarter) ⊞ numerator_by 1 x) x.over) (bottom x.over))
  sum_quarter_over w = rw (← shift_is) (sum_larger w (quarter_turn ⊕ x) (mul-pos parts_pos X) 1 x.over (omega arith))

  quartered_within : (w : Wave) (y : Fraction) (v : Whole) → 0 < y.over → Same y (quotient v (bottom x.over))
      → Bounded ((2 ^ 54) · (top w (more (x.over * quarter) ⊞ numerator_by 1 x) x.over ⊟ v)) (bottom x.over)
      → Within 54 (sum w (quarter_turn ⊕ x)) y
  quartered_within w y v Y i q =
      let u = top w (more (x.over * quarter) ⊞ numerator_by 1 x) x.over in
      let N = bottom x.over in
      let o : 0 < N = bottom_pos x.over X in
      let n : Close (2 ^ 54) (quotient u N) (quotient v N) 1 = record {
        first = o;
        second = o;
        above = omega (arith, mul-le-mul_left N q.up);
        below = omega (arith, mul-le-mul_left N q.down);
      } in
      close_within (close_same (sum w (quarter_turn ⊕ x)) y (sum_number w (quarter_turn ⊕ x) (mul-pos parts_pos X)) Y
      (sum_quarter_over w) (same_sym y (quotient v N) i) n)

  pub sum_quarter : (w : Wave) → Within 54 (sum w (quarter_turn ⊕ x)) (after w (λ v. sum v x))
  sum_quarter sine =
      let k = x.over in
      let z = numerator_by 1 x in
      quartered_within sine (sum cosine x) (top cosine z k) (sum_number cosine x X)
      (sum_over cosine x X 1 k (one-mul k)) (omega (arith, quartered sine k z (reached x 1 k (one-mul k) h)))
  sum_quarter cosine =
      let k = x.over in
      let z = numerator_by 1 x in
      let v = top sine z k in
      quartered_within cosine (opposite (sum sine x)) (record { plus = v.minus; minus = v.plus })
      (sum_number sine x X)
      (same_opposite (sum sine x) (quotient v (bottom k)) (sum_over sine x X 1 k (one-mul k)))
      (omega (arith, quartered cosine k z (reached x 1 k (one-mul k) h)))
