-- `root_of` is the nearest value of the format to the exact root: of every value of the format, a negative one too,
-- none
-- but the root itself is as near (`root_nearest`), and nothing else has that property (`root_only`). The root lies on
-- r's side of the middle between r and any other value; in units of the format's smallest value that is a matter of
-- whole numbers. Assumes nothing.
use Rattle.std.specs.Prelude.{◌≡◌, ◌⊎◌, ◌+◌, ◌-◌, ◌*◌, ◌^◌, ◌≤◌, ◌<◌}
use Rattle.lists.specs.Prelude.{ap, subst, inl, inr, Bool, true, false, ℕ, suc, le_trans, le_of_eq, le_of_lt}
use Rattle.lists.specs.Prelude.{lt_of_lt_of_le, lt_of_le_of_lt, lt_of_not-le, lt_irrefl, mul-pos, mul-le-mul}
use Rattle.lists.specs.Prelude.{mul-le-mul_right, mul-lt-mul_of_pos_right, lt_of_mul-lt-mul_right}
use Rattle.lists.specs.Prelude.{eq_of_mul-eq-mul_right, add-zero, dec_le, arith, T, pow_pos, Float, nan, inf, fin}
use Rattle.lists.specs.Prelude.{Format, prec, low, fits, hid}
use lib.Ieee.Exact.{HasValue}
use lib.Ieee.Scale.{finite}
use lib.Ieee.Positive.{positive, value_pos}
use Rattle.lists.proofs.Tests.{order_cases}
use Rattle.fractions.specs.Fraction.{Fraction, whole, fraction, signed, number, ◌⊕◌, ◌⊗◌, square, Same, Less, AtMost}
use Rattle.fractions.proofs.Restate.{⊕-comm, same_square}
use Rattle.fractions.proofs.Order.{same_refl, same_sym, same_trans, same_add, same_mul, less_same, at_most_same}
use Rattle.formats.proofs.Patterns.{same_value}
use Rattle.formats.proofs.Grid.{Grid, Units, zero_grid, held_units, grid_or_small}
use Rattle.numbers.specs.Roots.{HalfAbove, HalfBelow, NearestRoot}
use Rattle.numbers.specs.Computed.{root_units, root_of}
use Rattle.fractions.proofs.Number.{by_positive, finite_number, value_finite, value_same, value_number}
use Rattle.numbers.proofs.Squares.{square_lt}
use Rattle.numbers.proofs.Rooting.{root_of_value}
use Rattle.numbers.proofs.Half.{HalfUnit, half_unit}

-- ---- the root of n units, in units: nearer than any other number w of the format

-- A is four times the number under the root
abbrev Closer : ℕ → ℕ → ℕ → Type 0
Closer A r w = (r < w → A < (r + w) * (r + w)) × (w < r → (r + w) * (r + w) < A)

closer : (h u q w A : ℕ) → h ≤ q → ((y : ℕ) → suc y ≡ 2 * q → y * u * (y * u) < A)
    → A < suc (2 * q) * u * (suc (2 * q) * u) → (q ≤ h → 2 * q * u * (2 * q * u) ≤ A)
    → ((W : ℕ) × (w ≡ W * u)) ⊎ (w < h * u) → Closer A (q * u) w
closer h u q w A H lower upper floor g = (λ l. over l g, λ l. under l g)
  where
    over : q * u < w → ((W : ℕ) × (w ≡ W * u)) ⊎ (w < h * u) → A < (q * u + w) * (q * u + w)
    over l (inl (W, e)) =
        let m : suc q * u ≤ W * u = mul-le-mul_right u (lt_of_mul-lt-mul_right u (rw (← e) l)) in
        let z : suc (2 * q) * u ≤ q * u + w = omega arith in
        lt_of_lt_of_le upper (mul-le-mul z z)
    over l (inr s) = absurd (lt_irrefl w (lt_of_lt_of_le s (le_trans (mul-le-mul_right u H) (le_of_lt l))))

    -- w is at most q - 1 times u
    step : (v : ℕ) → v < q → w ≤ v * u → (q * u + w) * (q * u + w) < A
    step v l b =
        let y = q + q - 1 in
        let e : suc y ≡ 2 * q = omega arith in
        let m : suc v * u ≤ q * u = mul-le-mul_right u l in
        let z : q * u + w ≤ y * u = omega (arith, ap (λ (x : ℕ). x * u) e) in
        lt_of_le_of_lt (mul-le-mul z z) (lower y e)

    under : w < q * u → ((W : ℕ) × (w ≡ W * u)) ⊎ (w < h * u) → (q * u + w) * (q * u + w) < A
    under l (inl (W, e)) = step W (lt_of_mul-lt-mul_right u (rw (← e) l)) (le_of_eq e)
    under l (inr s) = go (dec_le q h)
      where
        go : Dec (q ≤ h) → (q * u + w) * (q * u + w) < A
        go (yes b) = lt_of_lt_of_le (square_lt (q * u + w) (2 * q * u) (omega arith)) (floor b)
        go (no n) = step h (lt_of_not-le n) (le_of_lt s)

unit_nearest : (f : Format) (n w : ℕ) (h : HalfUnit f n) → Grid f w → Closer (4 * (n * 2 ^ low f)) (h.q * 2 ^ h.k) w
unit_nearest f n w h g = closer (hid f) (2 ^ h.k) h.q w (4 * (n * 2 ^ low f)) h.least h.lower h.upper
    h.floor (grid_or_small f w h.k g)

-- ---- as fractions: x is n, r is p and y is w units, of which L make 1

-- r + y for a y that is not negative, and for one that is
sum_like : (L p w : ℕ) → Same (signed false p L ⊕ signed false w L) (fraction (p + w) 0 L)
sum_like L p w = omega arith

sum_unlike : (L p w : ℕ) → Same (signed false p L ⊕ signed true w L) (fraction p w L)
sum_unlike L p w = omega arith

module _ (L n p w : ℕ) (P : 0 < L) where
  above_nat : 4 * (n * L) < (p + w) * (p + w) → Less (whole 4 ⊗ signed false n L) (square (fraction (p + w) 0 L))
  above_nat h = omega (arith, mul-lt-mul_of_pos_right h P)

  below_nat : (p + w) * (p + w) < 4 * (n * L) → Less (square (fraction (p + w) 0 L)) (whole 4 ⊗ signed false n L)
  below_nat h = omega (arith, mul-lt-mul_of_pos_right h P)

  -- the square of p - w is less than that of p
  less_nat : p * p < 4 * (n * L) → w ≤ p → Less (square (fraction p w L)) (whole 4 ⊗ signed false n L)
  less_nat h l = omega (arith, mul-lt-mul_of_pos_right h P, mul-le-mul_right (w * L) l)

-- ---- as floats
module _ (f : Format) (x r y : Float) (n p : ℕ) (vx : HasValue x false n (2 ^ low f))
    (vr : HasValue r false p (2 ^ low f)) (P : 0 < p)
    (nearest : (w : ℕ) → Grid f w → Closer (4 * (n * 2 ^ low f)) p w) (t : T (finite y)) where
  abbrev L : ℕ
  L = 2 ^ low f

  L-pos : 0 < L
  L-pos = pow_pos (low f)

  x_pos : 0 < (number x).over
  x_pos = value_number x false n L vx

  r_pos : 0 < (number r).over
  r_pos = value_number r false p L vr

  y_pos : 0 < (number y).over
  y_pos = finite_number y t

  -- what is under the root, four times
  four_same : Same (whole 4 ⊗ number x) (whole 4 ⊗ signed false n L)
  four_same =
      same_mul (whole 4) (whole 4) (number x) (signed false n L) (same_refl (whole 4)) (value_same x false n L vx)

  r_same : Same (signed false p L) (number r)
  r_same = same_sym (number r) (signed false p L) (value_same r false p L vr)

  -- the order of r and y, in units
  module _ (s : Bool) (w : ℕ) (vy : HasValue y s w L) where
    y_same : Same (signed s w L) (number y)
    y_same = same_sym (number y) (signed s w L) (value_same y s w L vy)

    r_below : Less (number r) (number y) → Less (signed false p L) (signed s w L)
    r_below = less_same (signed false p L) (number r) (signed s w L) (number y) r_same y_same L-pos L-pos

    r_above : Less (number y) (number r) → Less (signed s w L) (signed false p L)
    r_above = less_same (signed s w L) (number y) (signed false p L) (number r) y_same r_same L-pos L-pos

  -- the sum of r and y, as a fraction z
  module _ (s : Bool) (w : ℕ) (z : Fraction) (vy : HasValue y s w L)
      (e : Same (signed false p L ⊕ signed s w L) z) where
    sum_same : Same (number r ⊕ number y) z
    sum_same =
        same_trans (number r ⊕ number y) (signed false p L ⊕ signed s w L) z (mul-pos L-pos L-pos)
        (same_add (number r) (signed false p L) (number y) (signed s w L) (value_same r false p L vr)
        (value_same y s w L vy)) e

    square_same : Same (square (number r ⊕ number y)) (square z)
    square_same = same_square (number r ⊕ number y) z sum_same

    sum_pos : 0 < (number r ⊕ number y).over
    sum_pos = mul-pos r_pos y_pos

    over_root : AtMost (whole 0) z → Less (whole 4 ⊗ signed false n L) (square z) → 0 < z.over
        → HalfAbove (number r ⊕ number y) (number x)
    over_root a b c = (
      at_most_same (whole 0) (whole 0) (number r ⊕ number y) z (same_refl (whole 0)) sum_same (omega arith) c a,
      less_same (whole 4 ⊗ number x) (whole 4 ⊗ signed false n L) (square (number r ⊕ number y)) (square z) four_same
          square_same (mul-pos (omega arith) x_pos) (mul-pos sum_pos sum_pos) b,
    )

    under_root : Less (square z) (whole 4 ⊗ signed false n L) → HalfBelow (number r ⊕ number y) (number x)
    under_root b = inr (less_same (square (number r ⊕ number y)) (square z) (whole 4 ⊗ number x)
        (whole 4 ⊗ signed false n L) square_same four_same (mul-pos sum_pos sum_pos) (mul-pos (omega arith) x_pos) b)

    negative_sum : Less z (whole 0) → HalfBelow (number r ⊕ number y) (number x)
    negative_sum b = inl (less_same (number r ⊕ number y) z (whole 0) (whole 0) sum_same (same_refl (whole 0)) sum_pos
        (omega arith) b)

  below : (s : Bool) → Units f s y → Less (number r) (number y) → HalfAbove (number r ⊕ number y) (number x)
  below false u l =
      over_root false u.w (fraction (p + u.w) 0 L) u.value (sum_like L p u.w) (omega arith)
      (above_nat L n p u.w L-pos
      ((nearest u.w u.grid).0 (lt_of_mul-lt-mul_right L (omega (arith, r_below false u.w u.value l)))))
      L-pos
  below true u l = absurd (omega (arith, r_below true u.w u.value l))

  above : (s : Bool) → Units f s y → Less (number y) (number r) → HalfBelow (number r ⊕ number y) (number x)
  above false u l =
      under_root false u.w (fraction (p + u.w) 0 L) u.value (sum_like L p u.w)
      (below_nat L n p u.w L-pos
      ((nearest u.w u.grid).1 (lt_of_mul-lt-mul_right L (omega (arith, r_above false u.w u.value l)))))
  above true u l = go (dec_le u.w p)
    where
      z : Fraction
      z = fraction p u.w L

      below_zero : ¬ (u.w ≤ p) → Less z (whole 0)
      below_zero m = omega arith

      -- zero is nearer than y
      at_zero : p * p < 4 * (n * L)
      at_zero = rw (← add-zero p) ((nearest 0 (zero_grid f)).1 P)

      go : Dec (u.w ≤ p) → HalfBelow (number r ⊕ number y) (number x)
      go (yes h) = under_root true u.w z u.value (sum_unlike L p u.w) (less_nat L n p u.w L-pos at_zero h)
      go (no m) = negative_sum true u.w z u.value (sum_unlike L p u.w) (below_zero m)

-- ---- the law
units_of : (f : Format) (y : Float) → T (fits f y) → T (finite y) → (s : Bool) × Units f s y
units_of f nan h t = absurd t
units_of f (inf s) h t = absurd t
units_of f (fin s m e) h t = (s, held_units f s m e h)

pub positive_units : (f : Format) (x : Float) → T (fits f x) → T (positive x) → Units f false x
positive_units f x h p =
    by_positive (λ x. T (fits f x) → Units f false x) (λ m e M h. held_units f false m e h) x p h

module _ (f : Format) (x : Float) (h : T (fits f x)) (p : T (positive x)) where
  abbrev X : Units f false x
  X = positive_units f x h p

  pub root_half : HalfUnit f X.w
  root_half = half_unit f X.w X.grid (value_pos x X.w (2 ^ low f) p (pow_pos (low f)) X.value)

  pub root_is : root_of f x ≡ root_units f X.w
  root_is = root_of_value f x X.w p X.value

  pub root_value : HasValue (root_of f x) false (root_half.q * 2 ^ root_half.k) (2 ^ low f)
  root_value = rw root_is root_half.value

  pub root_units_pos : 0 < root_half.q * 2 ^ root_half.k
  root_units_pos = mul-pos (lt_of_lt_of_le (pow_pos (prec f - 1)) root_half.least) (pow_pos root_half.k)

  pub root_nearest : NearestRoot f x (root_of f x)
  root_nearest = record {
    held = rw root_is root_half.held;
    number_is = value_finite (root_of f x) false (root_half.q * 2 ^ root_half.k) (2 ^ low f) root_value;
    below = λ y i t l. let u = units_of f y i t in below f x (root_of f x) y X.w (root_half.q * 2 ^ root_half.k)
        X.value root_value root_units_pos (λ w g. unit_nearest f X.w w root_half g) t u.0 u.1 l;
    above = λ y i t l. let u = units_of f y i t in above f x (root_of f x) y X.w (root_half.q * 2 ^ root_half.k)
        X.value root_value root_units_pos (λ w g. unit_nearest f X.w w root_half g) t u.0 u.1 l;
  }

-- ---- and it decides the answer
-- half of a number does not lie both above and below the root
not_both : (z x : Fraction) → HalfAbove z x → HalfBelow z x → ⊥
not_both z x (a, b) (inl c) = omega arith
not_both z x (a, b) (inr c) = lt_irrefl _ (lt_of_lt_of_le b (le_of_lt c))

pub root_only : (f : Format) (x r : Float) → T (fits f x) → T (positive x) → NearestRoot f x r → r ≡ root_of f x
root_only f x r h p R = let u = units_of f r R.held R.number_is in order_cases _ _ (λ l. absurd (r_under l))
    (same u.0 u.1) (λ l. absurd (r_over l))
  where
    Q : NearestRoot f x (root_of f x)
    Q = root_nearest f x h p

    L : ℕ
    L = 2 ^ low f

    w : ℕ
    w = (root_half f x h p).q * 2 ^ (root_half f x h p).k

    -- neither is below the other
    r_under : Less (number r) (number (root_of f x)) → ⊥
    r_under l = not_both (number r ⊕ number (root_of f x)) (number x) (R.below (root_of f x) Q.held Q.number_is l)
        (subst (λ (z : Fraction). HalfBelow z (number x)) (⊕-comm (number (root_of f x)) (number r))
        (Q.above r R.held R.number_is l))

    r_over : Less (number (root_of f x)) (number r) → ⊥
    r_over l = not_both (number r ⊕ number (root_of f x)) (number x)
        (subst (λ (z : Fraction). HalfAbove z (number x)) (⊕-comm (number (root_of f x)) (number r))
        (Q.below r R.held R.number_is l)) (R.above (root_of f x) Q.held Q.number_is l)

    -- so they are the same number, and the root is above zero
    same : (s : Bool) → Units f s r → Same (number r) (number (root_of f x)) → r ≡ root_of f x
    same s u e = by s u.w u.value
        (same_trans (signed s u.w L) (number r) (signed false w L) (finite_number r R.number_is)
        (same_sym (number r) (signed s u.w L) (value_same r s u.w L u.value))
        (same_trans (number r) (number (root_of f x)) (signed false w L)
        (finite_number (root_of f x) Q.number_is) e
        (value_same (root_of f x) false w L (root_value f x h p))))
      where
        by : (s : Bool) (v : ℕ) → HasValue r s v L → Same (signed s v L) (signed false w L) → r ≡ root_of f x
        by false v hv e = same_value f false r (root_of f x) w R.held Q.held
            (subst (λ (i : ℕ). HasValue r false i L) (eq_of_mul-eq-mul_right L (pow_pos (low f)) v w (omega arith))
            hv) (root_value f x h p)
        by true v hv e = absurd (none (mul-pos (root_units_pos f x h p) (pow_pos (low f))) e)
          where
            none : 0 < w * L → 0 * L + 0 * L ≡ w * L + v * L → ⊥
            none a b = omega arith
