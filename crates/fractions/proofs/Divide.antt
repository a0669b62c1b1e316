-- Quotients by a number above zero: how large they are and how far apart, in units of 1 / W, where the divisor is L / W
-- at least. And the laws of `Least`. Assumes nothing.
use Rattle.std.specs.Prelude.{◌+◌, ◌*◌, ◌≤◌, ◌<◌}
use Rattle.lists.specs.Prelude.{sym, ap, subst, subst₂, ℕ, le_trans, le_of_eq, le_of_lt, lt_of_lt_of_le, le-add_right}
use Rattle.lists.specs.Prelude.{add-sub_of_le, sub-pos_iff_lt, mul-pos, mul_comm, mul-le-mul, mul-le-mul_right}
use Rattle.lists.specs.Prelude.{le_of_mul-le-mul_right, lt_of_mul-lt-mul_right, arith}
use Rattle.fractions.specs.Fraction.{Fraction, fraction, whole, opposite, ◌⊕◌, ◌⊗◌, ◌⊘◌, Same, AtMost}
use Rattle.fractions.proofs.Ring.{ring}
use Rattle.fractions.proofs.Order.{same_sym, not_below_lem, left, plain, plain_same}
use Rattle.fractions.proofs.Close.{Above, Close, Size, Least, product_most, close_sym, same_close}
use Rattle.fractions.proofs.Close.{close_opposite, close_same, size_opposite}

-- ---- a number that is L / W at least
pub least_positive : {W L : ℕ} {x : Fraction} → 0 < L → 0 < x.over → Least W x L → x.minus < x.plus
least_positive {W} {L} {x} l X h = lt_of_mul-lt-mul_right W (omega (arith, mul-pos l X, h.least))

-- a number that is close to one of L / W at least
pub least_near : {W E L : ℕ} {x y : Fraction} (K : ℕ) → K + E ≤ L → Close W x y E → Least W y L → Least W x K
least_near {W} {E} {L} {x} {y} K l h k = record {
  least =
      le_of_mul-le-mul_right
      (omega (arith, h.below, mul-le-mul_right x.over k.least, mul-le-mul_right (x.over * y.over) l))
      h.second;
}

pub near_not_below : {W E : ℕ} (x y : Fraction) → Close W x y E → AtMost (whole 0) y → AtMost (fraction 0 E W) x
near_not_below {W} {E} x y c h =
    le_of_mul-le-mul_right
    (omega (arith, mul-le-mul_right (x.over * W) (not_below_lem y h), c.below)) c.second

-- a least value is one of the number, not of its name
pub least_same : {W L : ℕ} (x y : Fraction) → 0 < x.over → 0 < y.over → Same x y → Least W y L → Least W x L
least_same {W} {L} x y X Y e h = least_near L (omega arith) (same_close W x y X Y e) h

pub least_unit : {W U L : ℕ} {x : Fraction} (K : ℕ) → 0 < W → K * W ≤ L * U → Least W x L → Least U x K
least_unit {W} {U} {L} {x} K w k h = record {
  least = le_of_mul-le-mul_right (omega (arith, mul-le-mul_right U h.least, mul-le-mul_right x.over k)) w;
}

-- what is left of a divisor above zero, in whole numbers
pub left_least : {W L : ℕ} (x : Fraction) → x.minus ≤ x.plus → Least W x L → L * x.over ≤ left x * W
left_least {W} {L} x h k =
    omega (arith, subst (λ (n : ℕ). x.minus * W + L * x.over ≤ n * W) (sym (add-sub_of_le h)) k.least)

left_close : {W E : ℕ} {x y : Fraction} → x.minus ≤ x.plus → y.minus ≤ y.plus → Close W x y E
    → left x * y.over * W ≤ left y * x.over * W + E * (x.over * y.over)
left_close {x = x} {y = y} X Y h = omega (
  arith,
  (close_same (plain x) (plain y) h.first h.second
      (same_sym x (plain x) (plain_same x X)) (plain_same y Y) h).above,
)

-- ---- |x / y| ≤ B / W, where |x| ≤ M / W, y ≥ L / W and M * W ≤ B * L
size_above : {W M L : ℕ} {x y : Fraction} (B : ℕ) → 0 < L → 0 < y.over → M * W ≤ B * L → Size W x M → Least W y L
    → (x ⊘ y).plus * W ≤ (x ⊘ y).minus * W + B * (x ⊘ y).over
size_above {W} {M} {L} {x} {y} B l Y b h k =
    let z = left y in
    let i = left_least y (le_of_lt (least_positive l Y k)) k in
    le_of_mul-le-mul_right
    (omega (
      arith,
      mul-le-mul_right (y.over * L) h.above,
      mul-le-mul_right (M * x.over) i,
      mul-le-mul_right (z * x.over) b,
    )) l

pub size_divide : {W M L : ℕ} {x y : Fraction} (B : ℕ) → 0 < L → 0 < y.over → M * W ≤ B * L → Size W x M → Least W y L
    → Size W (x ⊘ y) B
size_divide {x = x} {y = y} B l Y b h k = record {
  above = size_above {x = x} {y = y} B l Y b h k;
  below = size_above {x = opposite x} {y = y} B l Y b (size_opposite h) k;
}

-- ---- x / y - q / r = ((x - q) r + q (r - y)) / (y r)
-- G * K * L is W * (E * L + M * F) at least, where K / W ≤ y and L / W ≤ r
bound_nat : (G K L E M F W z c : ℕ) → W * (E * L + M * F) * z ≤ G * (K * L) * z → L * c * (M * F) ≤ z * W * (M * F)
    → (E * z * W + M * F * c) * L ≤ G * K * z * L
bound_nat G K L E M F W z c g h = omega arith

close_above : {W E F M L : ℕ} {x q y r : Fraction} (G K : ℕ) → 0 < W → 0 < K → K + F ≤ L
    → W * (E * L + M * F) ≤ G * (K * L) → Close W x q E → Close W y r F → Size W q M → Least W r L
    → Above W (x ⊘ y) (q ⊘ r) G
close_above {W} {E} {F} {M} {L} {x} {q} {y} {r} G K w kp kl g h i m l =
    let Y = left y in
    let z = left r in
    let d = y.over in
    let c = r.over in
    let k = least_near K kl i l in
    let lp = lt_of_lt_of_le kp (le_trans (le-add_right K F) kl) in
    let ym = le_of_lt (least_positive kp i.first k) in
    let rm = le_of_lt (least_positive lp i.second l) in
    let a : z * d * W ≤ Y * c * W + F * (d * c) = le_trans (left_close rm ym (close_sym i))
    (le_of_eq (ap (λ (n : ℕ). Y * c * W + F * n) (mul_comm c d))) in
    let b = left_close ym rm i in
    let s = product_most (q.plus * W) (q.minus * W) (z * d * W) (Y * c * W) (M * q.over) (F * (d * c)) m.above
    m.below a b in
    let u = le_of_mul-le-mul_right
    (bound_nat G K L E M F W z c (mul-le-mul_right z g) (mul-le-mul_right (M * F) (left_least r rm l))) lp in
    le_of_mul-le-mul_right
    (simp ring (omega (
      arith,
      simp ring at (mul-le-mul_right (d * z * W) h.above),
      simp ring at (mul-le-mul_right x.over s),
      simp ring at (mul-le-mul_right (x.over * q.over * d) u),
      simp ring at (mul-le-mul_right (G * z * x.over * q.over) (left_least y ym k)),
    ))) w

-- the divisors are no less than K / W and L / W, and the bound G is W (E L + M F) / (K L)
pub close_divide : {W E F M L : ℕ} {x q y r : Fraction} (G K : ℕ) → 0 < W → 0 < K → K + F ≤ L
    → W * (E * L + M * F) ≤ G * (K * L) → Close W x q E → Close W y r F → Size W q M → Least W r L
    → Close W (x ⊘ y) (q ⊘ r) G
close_divide G K w kp kl g h i m l = record {
  first = mul-pos h.first (sub-pos_iff_lt.1 (least_positive kp i.first (least_near K kl i l)));
  second = mul-pos h.second
      (sub-pos_iff_lt.1 (least_positive (lt_of_lt_of_le kp (le_trans (le-add_right K _) kl)) i.second l));
  above = close_above G K w kp kl g h i m l;
  below = close_above G K w kp kl g (close_opposite h) i (size_opposite m) l;
}

-- by one and the same divisor y = z / d, the distance is divided too: E / W over y is E d / (W z)
over_above : {W E : ℕ} {x q : Fraction} (y : Fraction) → Close W x q E
    → Above (W * left y) (x ⊘ y) (q ⊘ y) (E * y.over)
over_above {W} {E} {x} {q} y h =
    simp ring (omega (arith, simp ring at (mul-le-mul_right (y.over * left y * left y) h.above)))

pub close_over : {W E : ℕ} {x q : Fraction} (y : Fraction) → y.minus < y.plus → Close W x q E
    → Close (W * left y) (x ⊘ y) (q ⊘ y) (E * y.over)
close_over y Y h = record {
  first = mul-pos h.first (sub-pos_iff_lt.1 Y);
  second = mul-pos h.second (sub-pos_iff_lt.1 Y);
  above = over_above y h;
  below = over_above y (close_opposite h);
}

-- ---- the least of a sum and of a product
pub least_add : {W K L : ℕ} {x y : Fraction} → Least W x K → Least W y L → Least W (x ⊕ y) (K + L)
least_add {x = x} {y = y} h i =
    omega (arith, mul-le-mul_right y.over h.least, mul-le-mul_right x.over i.least)

pub least_mul : {W K L : ℕ} {x y : Fraction} (G : ℕ) → 0 < W → G * W ≤ K * L → x.minus ≤ x.plus → y.minus ≤ y.plus
    → Least W x K → Least W y L → Least W (x ⊗ y) G
least_mul {W} {K} {L} {x} {y} G w g X Y h i = record {
  least =
      le_of_mul-le-mul_right
      (subst₂ (λ (p q : ℕ). ((p * y.minus + x.minus * q) * W + G * (x.over * y.over)) * W
      ≤ (p * q + x.minus * y.minus) * W * W) (add-sub_of_le X) (add-sub_of_le Y)
      (omega (arith, mul-le-mul (left_least x X h) (left_least y Y i), mul-le-mul_right (x.over * y.over) g)))
      w;
}
