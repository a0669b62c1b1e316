-- A quotient by a root, G / √S, bounded by squares, since √S is no fraction: r is a number whose square is near S, and
-- x is near G / r. Then x is `BySquares` of G / √S (`by_squares`), for G of either sign: the square of the exact G / √S
-- lies between those of |x| - 2 ^ -k (0 if that is negative) and |x| + 2 ^ -k, and x has the sign of G unless G / √S is
-- 2 ^ -k in magnitude at most. Assumes nothing.
use Rattle.std.specs.Prelude.{◌≡◌, ◌∷◌, ◌+◌, ◌*◌, ◌-◌, ◌^◌, ◌≤◌, ◌<◌}
use Rattle.lists.specs.Prelude.{refl, ap, ◌∙◌, inl, inr, Bool, List, [], ℕ, le_trans, le_of_lt, lt_of_not-le}
use Rattle.lists.specs.Prelude.{sub-add_cancel, sub-eq-zero_of_le, sub-pos_iff_lt, eq-zero-or-pos, mul-pos, mul-le-mul}
use Rattle.lists.specs.Prelude.{mul-le-mul_right, le_of_mul-le-mul_right, lt_of_mul-lt-mul_right, dec_le, dec_lt, arith}
use Rattle.lists.specs.Prelude.{T, leb, ltb, leb→le, ltb→lt, pow_pos}
use lib.Ieee.Positive.{first_pos}
use Rattle.lists.proofs.Tests.{all, each_holds}
use Rattle.fractions.specs.Fraction.{Fraction, fraction, square, unit, whole, ◌⊗◌, ◌⊘◌, Same, Less, AtMost, gap}
use Rattle.fractions.specs.Squares.{magnitude_above, magnitude_below, BySquares}
use Rattle.fractions.proofs.Ring.{ring}
use Rattle.fractions.proofs.Order.{same_refl, same_sym, by_gap, gap_times, at_most_same, not_less, less_not}
use Rattle.fractions.proofs.Order.{left, plain, plain_same}
use Rattle.fractions.proofs.Restate.{equal, equal_same, same_square}
use Rattle.fractions.proofs.Magnitude.{close_magnitude, square_nat}
use Rattle.fractions.proofs.Close.{Close, Least, close_same}
use Rattle.fractions.proofs.Within.{size_gap}
use Rattle.fractions.proofs.Divide.{left_least, least_positive}
use Rattle.fractions.proofs.Near.{Near}

-- ---- with |a - b| ≤ t, t * u ≤ h * b and 2 * t ≤ b: u² ≤ (u + h)² * (a / b), and v² * (a / b) ≤ u² where v + h ≤ u.
-- Here u is the quotient by r, h what is left of the bound and a / b is S / r²
raised_nat : (u h a b t : ℕ) → b ≤ a + t → t * u ≤ h * b → 2 * t ≤ b → u * u * b ≤ (u + h) * (u + h) * a
raised_nat u h a b t x y z = omega (
  arith,
  mul-le-mul_right ((u + h) * (u + h)) x,
  mul-le-mul_right u y,
  mul-le-mul_right (u * h) z,
  mul-le-mul_right (h * h) z,
)

lowered_nat : (v h u a b t : ℕ) → a ≤ b + t → t * u ≤ h * b → v + h ≤ u → v ≤ u → v * v * a ≤ u * u * b
lowered_nat v h u a b t x y z w = omega (
  arith,
  mul-le-mul_right (v * v) x,
  mul-le-mul_right v y,
  mul-le-mul_right (v * t) w,
  mul-le-mul_right (v * b) z,
  mul-le-mul_right (u * b) w,
)

-- ---- |G| = A / B, S = Z / C, r = R / D, |x| = X / a, in whole numbers; 1 / P is the bound, and d / W, t / W are the
-- errors of x and of r². K = W - d * P is what x leaves of the bound
slack : (A B C R D a P W M t K L : ℕ) → 0 < W → A * D * W ≤ M * (B * R) → L * D ≤ R * W → t * M * P * W ≤ K * (L * L)
    → t * (D * D * C) * (A * D * (a * P * W)) ≤ B * R * a * K * (C * R * R * W)
slack A B C R D a P W M t K L w g l h =
    let c : t * P * A * (D * D * D) ≤ B * K * (R * R * R) =
    le_of_mul-le-mul_right
    (simp ring (omega (
      arith,
      simp ring at (mul-le-mul_right (t * P * (D * D) * W) g),
      simp ring at (mul-le-mul_right (B * R * (D * D)) h),
      simp ring at (mul-le-mul_right (K * B * R) (mul-le-mul l l)),
    ))) (mul-pos w w) in
    let c' = simp ring at (mul-le-mul_right (C * a * W) c) in
    simp ring (omega arith)

half : (C R D W t L : ℕ) → 0 < W → L * D ≤ R * W → 2 * t * W ≤ L * L → 2 * (t * (D * D * C)) ≤ C * R * R * W
half C R D W t L w l h =
    le_of_mul-le-mul_right (omega (arith, mul-le-mul_right (D * D * C) h, mul-le-mul_right C (mul-le-mul l l))) w

module _ (A B C Z R D X a P W M d t K L : ℕ) (w : 0 < W) (rp : 0 < R) (dp : 0 < D) (k : K + d * P ≡ W)
    (g : A * D * W ≤ M * (B * R)) (l : L * D ≤ R * W)
    (small : t * M * P * W ≤ K * (L * L)) (least : 2 * t * W ≤ L * L) where
  reach : A * D * a * W * P ≤ (X * (B * R) * W + d * (a * (B * R))) * P → (K + d * P) * (B * R * a) ≡ W * (B * R * a)
      → A * D * (a * P * W) + B * R * a * K ≤ (X * P + a) * (B * R * W)
  reach x e = omega arith

  under : (y : ℕ) → X * (B * R) * W * P ≤ (A * D * a * W + d * (a * (B * R))) * P
      → (K + d * P) * (B * R * a) ≡ W * (B * R * a) → (y + a) * (B * R * W) ≡ X * P * (B * R * W)
      → y * (B * R * W) + B * R * a * K ≤ A * D * (a * P * W)
  under y x e f = omega arith

  up : (Y : ℕ) → A * D * (a * P * W) * (A * D * (a * P * W)) * (C * R * R * W) ≤ Y * (B * R * W) * (Y * (B * R * W))
      * (Z * (D * D) * W)
      → A * A * C * (a * P * (a * P)) * (D * D * (R * R) * (W * W * W)) ≤ Y * Y * (B * B * Z)
      * (D * D * (R * R) * (W * W * W))
  up Y x = let x' = simp ring at x in simp ring (omega arith)

  down : (Y : ℕ) → Y * (B * R * W) * (Y * (B * R * W)) * (Z * (D * D) * W) ≤ A * D * (a * P * W) * (A * D * (a * P * W))
      * (C * R * R * W)
      → Y * Y * (B * B * Z) * (D * D * (R * R) * (W * W * W)) ≤ A * A * C * (a * P * (a * P))
      * (D * D * (R * R) * (W * W * W))
  down Y x = let x' = simp ring at x in simp ring (omega arith)

  all_pos : 0 < D * D * (R * R) * (W * W * W)
  all_pos = mul-pos (mul-pos (mul-pos dp dp) (mul-pos rp rp)) (mul-pos (mul-pos w w) w)

  above_nat : A * D * a * W ≤ X * (B * R) * W + d * (a * (B * R)) → C * R * R * W ≤ Z * (D * D) * W + t * (D * D * C)
      → A * A * C * (a * P * (a * P)) ≤ (X * P + a) * (X * P + a) * (B * B * Z)
  above_nat x s =
      let u = A * D * (a * P * W) in
      let v = reach (mul-le-mul_right P x) (ap (λ (z : ℕ). z * (B * R * a)) k) in
      let c = raised_nat u (B * R * a * K) (Z * (D * D) * W) (C * R * R * W) (t * (D * D * C)) s
      (slack A B C R D a P W M t K L w g l small) (half C R D W t L w l least) in
      le_of_mul-le-mul_right (up (X * P + a) (le_trans c (mul-le-mul_right (Z * (D * D) * W) (mul-le-mul v v)))) all_pos

  below_nat : (y : ℕ) → y + a ≡ X * P → X * (B * R) * W ≤ A * D * a * W + d * (a * (B * R))
      → Z * (D * D) * W ≤ C * R * R * W + t * (D * D * C) → y * y * (B * B * Z) ≤ A * A * C * (a * P * (a * P))
  below_nat y f x s =
      let u = A * D * (a * P * W) in
      let h = B * R * a * K in
      let v = under y (mul-le-mul_right P x) (ap (λ (z : ℕ). z * (B * R * a)) k) (ap (λ (z : ℕ). z * (B * R * W)) f) in
      le_of_mul-le-mul_right
      (down y (lowered_nat (y * (B * R * W)) h u (Z * (D * D) * W) (C * R * R * W) (t * (D * D * C)) s
      (slack A B C R D a P W M t K L w g l small) v (omega arith))) all_pos

-- ---- the words of specs/, in the same letters

-- the number over its `over`, of one that may have either sign, as `left` is of one that is not below 0
abbrev size : Fraction → ℕ
size x = gap x.plus x.minus

at_most_nat : (u v u' v' : ℕ) → u * v' ≤ u' * v → AtMost (fraction u 0 v) (fraction u' 0 v')
at_most_nat u v u' v' h = omega arith

square_is : (y b : ℕ) → square (fraction y 0 b) ≡ fraction (y * y) 0 (b * b)
square_is y b = equal (omega arith) (omega arith) refl

module _ (k : ℕ) (x : Fraction) where
  raised_is : square (magnitude_above k x) ≡ fraction ((size x * 2 ^ k + x.over) * (size x * 2 ^ k + x.over)) 0
      (x.over * 2 ^ k * (x.over * 2 ^ k))
  raised_is = equal (omega arith) (omega arith) refl

  lowered_is : square (magnitude_below k x) ≡ fraction ((size x * 2 ^ k - x.over) * (size x * 2 ^ k - x.over)) 0
      (x.over * 2 ^ k * (x.over * 2 ^ k))
  lowered_is = ap square (equal (omega arith) refl refl) ∙ square_is _ _

exact_is : (G S : Fraction) → Same (square G ⊘ S) (fraction (size G * size G * S.over) 0 (G.over * G.over * left S))
exact_is G S = rw (← square_nat G.plus G.minus) (omega arith)

-- ---- r² and S
-- r² within t / W of S, in whole numbers
module _ {W t : ℕ} (r : Fraction) {S : Fraction} (m : r.minus ≤ r.plus) (c : Close W (square r) S t) where
  plain_close : Close W (square (plain r)) S t
  plain_close = close_same (square (plain r)) S c.first c.second
      (same_square (plain r) r (same_sym r (plain r) (plain_same r m))) (same_refl S) c

  square_above : S.over * left r * left r * W + S.minus * (r.over * r.over) * W ≤ S.plus * (r.over * r.over) * W
      + t * (r.over * r.over * S.over)
  square_above = omega (arith, plain_close.above)

  pub square_below : S.plus * (r.over * r.over) * W ≤ S.over * left r * left r * W + S.minus * (r.over * r.over)
      * W + t * (r.over * r.over * S.over)
  square_below = omega (arith, plain_close.below)

-- r being L / W at least and 2 * t * W ≤ L², S is above 0, and of it too nothing need be taken away
record Root (W : ℕ) (r S : Fraction) (t : ℕ) : Type 0 where
  pub positive : S.minus < S.plus
  pub above : S.over * left r * left r * W ≤ left S * (r.over * r.over) * W + t * (r.over * r.over * S.over)
  pub below : left S * (r.over * r.over) * W ≤ S.over * left r * left r * W + t * (r.over * r.over * S.over)

root_counted : {W t L : ℕ} {r S : Fraction} → 0 < W → 0 < L → 0 < r.over → Close W (square r) S t → Least W r L
    → 2 * t * W ≤ L * L → Root W r S t
root_counted {W} {t} {L} {r} {S} w lp rp h l k =
    let D = r.over in
    let m = least_positive lp rp l in
    let z>0 : 0 < left r = sub-pos_iff_lt.1 m in
    let s : S.minus < S.plus =
    lt_of_mul-lt-mul_right (D * D)
    (lt_of_mul-lt-mul_right W
    (omega (
      arith,
      square_above r (le_of_lt m) h,
      half S.over (left r) D W t L w (left_least r (le_of_lt m) l) k,
      mul-pos (mul-pos (mul-pos h.second z>0) z>0) w,
    ))) in
    let c = close_same (square r) (plain S) h.first h.second (same_refl (square r)) (plain_same S (le_of_lt s))
    h in
    record {
      positive =
          s;
      above = omega (arith, square_above r (le_of_lt m) c);
      below = omega (arith, square_below r (le_of_lt m) c);
    }

-- ---- the sign: where x and G are not of one sign, |G| / r is d / W at most, and so G² / S is 2 ^ -2k at most
module _ (o u W E : ℕ) where
  -- one of i and j is 0
  like : (i j : ℕ) → i * j ≤ 0 → j * o * W ≤ i * u * W + E * (o * u) → j * W * o ≤ E * u * o
  like i j h k = elim (eq-zero-or-pos i) [
    | inl e ↦ (omega (arith, rw e at k))
    | inr p ↦ let e : j ≡ 0 = omega (arith, mul-le-mul_right j p) in rw e (omega arith)
  ]

  abbrev Unlike : ℕ → ℕ → ℕ → ℕ → ℕ → Type 0
  Unlike p m q n j = p * q + m * n ≤ p * n + m * q → (p * u + n * o) * W ≤ (q * o + m * u) * W + E * (o * u)
      → (m * u + q * o) * W ≤ (n * o + p * u) * W + E * (o * u) → j * W * o ≤ E * u * o

  unlike_nat : (p m q n : ℕ) → Unlike p m q n (gap q n)
  unlike_nat p m q n =
      by_gap (λ (p m i : ℕ). Unlike p m q n (gap q n))
      (λ m i. by_gap (λ (q n j : ℕ). Unlike (m + i) m q n j) (λ n j h a b. like i j (omega arith) (omega arith))
      (λ q j h a b. omega arith) q n)
      (λ p i. by_gap (λ (q n j : ℕ). Unlike p (p + i) q n j) (λ n j h a b. omega arith)
      (λ q j h a b. like i j (omega arith) (omega arith)) q n)
      p m

twice_nat : (C Z R D W t : ℕ) → C * R * R * W ≤ Z * (D * D) * W + t * (D * D * C)
    → 2 * (t * (D * D * C)) ≤ C * R * R * W → C * R * R * W ≤ 2 * (Z * (D * D)) * W
twice_nat C Z R D W t h k = omega arith

-- ---- the law
-- the tests on the bounds: d / W on x, t / W on r², M / W at least |G| / r, L / W at most r
abbrev squares_tests : ℕ → ℕ → ℕ → ℕ → ℕ → ℕ → List Bool
squares_tests W k M d t L =
    ltb 0 W ∷ ltb 0 L ∷ leb (d * 2 ^ k) W ∷ leb (t * M * 2 ^ k * W) ((W - d * 2 ^ k) * (L * L))
    ∷ leb (2 * t * W) (L * L) ∷ leb (2 * (d * 2 ^ k * (d * 2 ^ k))) (W * W) ∷ []

abbrev pub squares_fine : ℕ → ℕ → ℕ → ℕ → ℕ → ℕ → Bool
squares_fine W k M d t L = all (squares_tests W k M d t L)

record Tests (W k M d t L : ℕ) : Type 0 where
  pub unit : 0 < W
  pub root : 0 < L
  pub left : d * 2 ^ k ≤ W
  pub small : t * M * 2 ^ k * W ≤ (W - d * 2 ^ k) * (L * L)
  pub half : 2 * t * W ≤ L * L
  pub sign : 2 * (d * 2 ^ k * (d * 2 ^ k)) ≤ W * W

tests : (W k M d t L : ℕ) → T (squares_fine W k M d t L) → Tests W k M d t L
tests W k M d t L h =
    let (unit, (root, (left, (small, (half, (sign, end)))))) = each_holds (squares_tests W k M d t L) h in
    record {
      unit = ltb→lt 0 W unit;
      root = ltb→lt 0 L root;
      left = leb→le _ _ left;
      small = leb→le _ _ small;
      half = leb→le _ _ half;
      sign = leb→le _ _ sign;
    }

module _ {W k M d t L : ℕ} (x G r S : Fraction) (f : Tests W k M d t L) (n : Near W x (G ⊘ r) M d)
    (c : Close W (square r) S t) (l : Least W r L) where
  D>0 : 0 < r.over
  D>0 = first_pos r.over r.over c.first

  B>0 : 0 < G.over
  B>0 = first_pos G.over (left r) n.close.second

  r>0 : r.minus < r.plus
  r>0 = least_positive f.root D>0 l

  the_root : Root W r S t
  the_root = root_counted f.unit f.root D>0 c l f.half

  long : L * r.over ≤ left r * W
  long = left_least r (le_of_lt r>0) l

  -- |G / r| is |G| over r
  quotient : gap (G.plus * r.over) (G.minus * r.over) ≡ size G * r.over
  quotient = gap_times G.plus G.minus r.over

  sized : size G * r.over * W ≤ M * (G.over * left r)
  sized = rw quotient at (size_gap n.size)

  near_above : size G * r.over * x.over * W ≤ size x * (G.over * left r) * W + d * (x.over * (G.over * left r))
  near_above = omega (arith, rw quotient at (close_magnitude n.close).below)

  near_below : size x * (G.over * left r) * W ≤ size G * r.over * x.over * W + d * (x.over * (G.over * left r))
  near_below = omega (arith, rw quotient at (close_magnitude n.close).above)

  under_square : 0 < G.over * G.over * left S
  under_square = mul-pos (mul-pos B>0 B>0) (sub-pos_iff_lt.1 the_root.positive)

  -- G² / S, in the same letters
  abbrev exactly : Fraction
  exactly = fraction (size G * size G * S.over) 0 (G.over * G.over * left S)

  wide : 0 < x.over * 2 ^ k * (x.over * 2 ^ k)
  wide = mul-pos (mul-pos n.close.first (pow_pos k)) (mul-pos n.close.first (pow_pos k))

  squares_above : AtMost (square G ⊘ S) (square (magnitude_above k x))
  squares_above =
      at_most_same (square G ⊘ S) exactly (square (magnitude_above k x))
      (fraction ((size x * 2 ^ k + x.over) * (size x * 2 ^ k + x.over)) 0 (x.over * 2 ^ k * (x.over * 2 ^ k)))
      (exact_is G S) (equal_same (raised_is k x)) under_square wide
      (at_most_nat _ (G.over * G.over * left S) _ (x.over * 2 ^ k * (x.over * 2 ^ k))
      (above_nat (size G) G.over S.over (left S) (left r) r.over (size x) x.over (2 ^ k) W M d t
      (W - d * 2 ^ k) L f.unit (sub-pos_iff_lt.1 r>0) D>0 (sub-add_cancel f.left) sized long f.small
      f.half
      near_above the_root.above))

  lowered_square : Dec (x.over ≤ size x * 2 ^ k) → (size x * 2 ^ k - x.over) * (size x * 2 ^ k - x.over)
      * (G.over * G.over * left S) ≤ size G * size G * S.over * (x.over * 2 ^ k * (x.over * 2 ^ k))
  lowered_square (yes h) =
      below_nat (size G) G.over S.over (left S) (left r) r.over (size x) x.over (2 ^ k) W M d t
      (W - d * 2 ^ k) L f.unit (sub-pos_iff_lt.1 r>0) D>0 (sub-add_cancel f.left) sized long f.small
      f.half
      (size x * 2 ^ k - x.over) (sub-add_cancel h) near_below the_root.below
  lowered_square (no h) = rw (sub-eq-zero_of_le (le_of_lt (lt_of_not-le h))) (omega arith)

  squares_below : AtMost (square (magnitude_below k x)) (square G ⊘ S)
  squares_below =
      at_most_same (square (magnitude_below k x))
      (fraction ((size x * 2 ^ k - x.over) * (size x * 2 ^ k - x.over)) 0 (x.over * 2 ^ k * (x.over * 2 ^ k)))
      (square G ⊘ S) exactly (equal_same (lowered_is k x)) (exact_is G S) wide under_square
      (at_most_nat _ (x.over * 2 ^ k * (x.over * 2 ^ k)) _ (G.over * G.over * left S)
      (lowered_square (dec_le x.over (size x * 2 ^ k))))

  -- x G ≤ 0
  unlike_small : AtMost (x ⊗ G) (whole 0) → size G * r.over * W ≤ d * (G.over * left r)
  unlike_small h =
      le_of_mul-le-mul_right
      (rw quotient at
      (unlike_nat x.over (G.over * left r) W d x.plus x.minus (G.plus * r.over) (G.minus * r.over)
      (turn x.plus x.minus G.plus G.minus r.over (mul-le-mul_right r.over (omega arith)))
      n.close.above n.close.below)) n.close.first
    where
      turn : (p m q n D : ℕ) → (p * q + m * n) * D ≤ (p * n + m * q) * D
          → p * (q * D) + m * (n * D) ≤ p * (n * D) + m * (q * D)
      turn p m q n D h = omega arith

  squares_small : size G * r.over * W ≤ d * (G.over * left r) → AtMost (square G ⊘ S) (square (unit k))
  squares_small h =
      let P = 2 ^ k in
      let D = r.over in
      let R = left r in
      let B = G.over in
      let y = le_of_mul-le-mul_right
      (twice_nat S.over (left S) R D W t the_root.above (half S.over R D W t L f.unit long f.half))
      f.unit in
      at_most_same (square G ⊘ S) exactly (square (unit k)) (square (unit k)) (exact_is G S)
      (same_refl (square (unit k))) under_square (mul-pos (pow_pos k) (pow_pos k))
      (at_most_nat _ (B * B * left S) 1 (P * P)
      (le_of_mul-le-mul_right
      (simp ring (omega (
        arith,
        simp ring at (mul-le-mul_right (P * P * S.over) (mul-le-mul h h)),
        simp ring at (mul-le-mul_right (d * P * (d * P) * (B * B)) y),
        simp ring at (mul-le-mul_right (B * B * left S * (D * D)) f.sign),
      )))
      (mul-pos (mul-pos D>0 D>0) (mul-pos f.unit f.unit))))

  squares_sign : Less (square (unit k)) (square G ⊘ S) → Less (whole 0) (x ⊗ G)
  squares_sign h = go (dec_lt _ _)
    where
      go : Dec (Less (whole 0) (x ⊗ G)) → Less (whole 0) (x ⊗ G)
      go (yes p) = p
      go (no p) = absurd (less_not (square G ⊘ S) (square (unit k))
          (squares_small (unlike_small (not_less (whole 0) (x ⊗ G) p))) h)

pub by_squares : (k : ℕ) {W M d t L : ℕ} (x G r S : Fraction) → T (squares_fine W k M d t L) → Near W x (G ⊘ r) M d
    → Close W (square r) S t → Least W r L → BySquares k x G S
by_squares k {W} {M} {d} {t} {L} x G r S h n c l =
    let f = tests W k M d t L h in
    record {
      gain = n.close.first;
      formula = B>0 x G r S f n c l;
      sum = c.second;
      positive = omega (arith, (the_root x G r S f n c l).positive);
      above = squares_above x G r S f n c l;
      below = squares_below x G r S f n c l;
      sign = squares_sign x G r S f n c l;
    }
