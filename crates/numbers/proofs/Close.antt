-- How near the root is, by squares: it is the root to one part in P = 2 ^ prec (`RootOf`, `root_close`). The square of
-- r * (1 - 1 / P) is below x, and the square of r * (1 + 1 / P) above it; and the root of a number above zero is above
-- zero (`root_positive`). Assumes nothing.
use Rattle.std.specs.Prelude.{◌≡◌, ◌-◌, ◌*◌, ◌^◌, ◌≤◌, ◌<◌}
use Rattle.lists.specs.Prelude.{sym, subst, false, ℕ, zero, suc, le_trans, le_of_eq, sub-pos_iff_lt, zero-lt-suc}
use Rattle.lists.specs.Prelude.{mul-pos, mul-le-mul, mul-le-mul_right, mul-lt-mul_of_pos_right, lt_of_mul-lt-mul_left}
use Rattle.lists.specs.Prelude.{arith, T, pow_pos, suc_ones, Float, Format, prec, low, fits}
use lib.Ieee.Positive.{positive, positive_of_value}
use Rattle.fractions.specs.Fraction.{Fraction, fraction, signed, number, ◌⊗◌, square, Same, Less}
use Rattle.fractions.proofs.Roots.{RootOf}
use Rattle.fractions.proofs.Order.{same_refl, same_mul, less_same}
use Rattle.fractions.proofs.Restate.{same_square}
use Rattle.formats.proofs.Patterns.{twice_hid}
use Rattle.numbers.specs.Computed.{root_of}
use Rattle.fractions.proofs.Number.{value_same, value_number}
use Rattle.fractions.proofs.Operations.{positive_number}
use Rattle.numbers.proofs.Middle.{positive_units, root_half, root_is, root_value, root_units_pos}

-- ---- within one part in 2 ^ prec

-- y / P is twice Q / p at least, and y² u² is less than 4 a
under : (y P u Q a p : ℕ) → 0 < P → 2 * (Q * p) ≤ y * P → y * u * (y * u) < 4 * a
    → Q * u * p * (Q * u * p) < a * (P * P)
under y P u Q a p o m l =
    let mu = mul-le-mul_right u m in
    lt_of_mul-lt-mul_left 4 (omega (arith, mul-le-mul mu mu, mul-lt-mul_of_pos_right l (mul-pos o o)))

over : (y P u Q a p : ℕ) → 0 < P → y * P ≤ 2 * (Q * p) → 4 * a < y * u * (y * u) → a * (P * P) < Q * u * p * (Q * u * p)
over y P u Q a p o m l =
    let mu = mul-le-mul_right u m in
    lt_of_mul-lt-mul_left 4 (omega (arith, mul-le-mul mu mu, mul-lt-mul_of_pos_right l (mul-pos o o)))

-- P' + 1 is 2 ^ prec, which is at most 2 * q
lower_part : (q u a P' : ℕ) → suc P' ≤ 2 * q → ((y : ℕ) → suc y ≡ 2 * q → y * u * (y * u) < 4 * a)
    → q * u * P' * (q * u * P') < a * (suc P' * suc P')
lower_part zero u a P' h low = absurd (omega arith)
lower_part (suc q) u a P' h low =
    under (suc (2 * q)) (suc P') u (suc q) a P' (zero-lt-suc P') (omega arith) (low (suc (2 * q)) (omega arith))

upper_part : (q u a P : ℕ) → P ≤ 2 * q → 0 < P → 4 * a < suc (2 * q) * u * (suc (2 * q) * u)
    → a * (P * P) < q * u * suc P * (q * u * suc P)
upper_part q u a P h pp = over (suc (2 * q)) P u q a (suc P) pp (omega arith)

-- ---- as fractions: x is n and r is p of L to the one
module _ (f : Format) (x : Float) (h : T (fits f x)) (t : T (positive x)) where
  abbrev n : ℕ
  n = (positive_units f x h t).w

  abbrev q : ℕ
  q = (root_half f x h t).q

  abbrev u : ℕ
  u = 2 ^ (root_half f x h t).k

  L : 0 < 2 ^ low f
  L = pow_pos (low f)

  x_same : Same (number x) (signed false n (2 ^ low f))
  x_same = value_same x false n (2 ^ low f) (positive_units f x h t).value

  x_pos : 0 < (number x).over
  x_pos = value_number x false n (2 ^ low f) (positive_units f x h t).value

  -- the root times c / P, squared
  module _ (c P : ℕ) (pp : 0 < P) where
    scaled : Fraction
    scaled = number (root_of f x) ⊗ fraction c 0 P

    scaled_pos : 0 < scaled.over
    unfolding scaled
    scaled_pos = mul-pos (value_number (root_of f x) false (q * u) (2 ^ low f) (root_value f x h t)) pp

    square_same : Same (square scaled) (square (signed false (q * u) (2 ^ low f) ⊗ fraction c 0 P))
    unfolding scaled
    square_same =
        let k = fraction c 0 P in
        let r = signed false (q * u) (2 ^ low f) in
        same_square scaled (r ⊗ k)
        (same_mul (number (root_of f x)) r k k
        (value_same (root_of f x) false (q * u) (2 ^ low f) (root_value f x h t)) (same_refl k))

    scaled_below : q * u * c * (q * u * c) < n * 2 ^ low f * (P * P) → Less (square scaled) (number x)
    scaled_below l =
        less_same (square scaled) (square (signed false (q * u) (2 ^ low f) ⊗ fraction c 0 P)) (number x)
        (signed false n (2 ^ low f)) square_same x_same (mul-pos scaled_pos scaled_pos) x_pos
        (omega (arith, mul-lt-mul_of_pos_right l L))

    scaled_above : n * 2 ^ low f * (P * P) < q * u * c * (q * u * c) → Less (number x) (square scaled)
    scaled_above l =
        less_same (number x) (signed false n (2 ^ low f)) (square scaled)
        (square (signed false (q * u) (2 ^ low f) ⊗ fraction c 0 P)) x_same square_same x_pos
        (mul-pos scaled_pos scaled_pos)
        (omega (arith, mul-lt-mul_of_pos_right l L))

  pub root_positive : T (positive (root_of f x))
  root_positive = positive_of_value (root_of f x) (q * u) (2 ^ low f) (root_value f x h t) (root_units_pos f x h t)

  pub root_fits : T (fits f (root_of f x))
  root_fits = subst (λ (r : Float). T (fits f r)) (sym (root_is f x h t)) (root_half f x h t).held

  pub root_close : RootOf (2 ^ prec f) (number (root_of f x)) (number x)
  unfolding scaled
  root_close =
      let P = 2 ^ prec f in
      let r = root_half f x h t in
      let big : P ≤ 2 * q = le_trans (le_of_eq (twice_hid f)) (omega (arith, r.least)) in
      let s : suc (P - 1) ≡ P = suc_ones (prec f) in
      record {
        root = value_number (root_of f x) false (q * u) (2 ^ low f) (root_value f x h t);
        number = x_pos;
        positive = omega (arith, sub-pos_iff_lt.0 (positive_number (root_of f x) root_positive));
        below = scaled_below (P - 1) P (pow_pos (prec f))
            (subst (λ (z : ℕ). q * u * (P - 1) * (q * u * (P - 1)) < n * 2 ^ low f * (z * z)) s
            (lower_part q u (n * 2 ^ low f) (P - 1) (subst (λ (z : ℕ). z ≤ 2 * q) (sym s) big) r.lower));
        above = scaled_above (suc P) P (pow_pos (prec f))
            (upper_part q u (n * 2 ^ low f) P big (pow_pos (prec f)) r.upper);
      }
