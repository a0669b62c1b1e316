-- The laws of `Same`, `Less`, `AtMost` and `AsNear`: fractions that are the same number serve each other everywhere.
-- Assumes nothing.
use Rattle.std.specs.Prelude.{◌≡◌, ◌+◌, ◌-◌, ◌*◌, ◌≤◌, ◌<◌}
use Rattle.lists.specs.Prelude.{sym, ap, ◌∙◌, subst, Bool, ℕ, le_of_eq, le_of_lt, le_antisymm, lt_of_not-le}
use Rattle.lists.specs.Prelude.{add-sub_of_le, mul-pos, mul-le-mul_right, le_of_mul-le-mul_right}
use Rattle.lists.specs.Prelude.{lt_of_mul-lt-mul_right, mul-lt-mul_of_pos_right, dec_le, arith, T, eqb, eqb→eq}
use Rattle.fractions.specs.Fraction.{Fraction, fraction, whole, opposite, ◌⊕◌, ◌⊗◌, Same, Less, AtMost, gap}
use Rattle.fractions.specs.Fraction.{apart, AsNear}
use Rattle.fractions.proofs.Ring.{ring}

-- ---- an order, and an equivalence
pub same_refl : (x : Fraction) → Same x x
same_refl x = omega arith

pub same_sym : (x y : Fraction) → Same x y → Same y x
same_sym x y h = omega arith

pub at_most_trans : (x y z : Fraction) → 0 < y.over → AtMost x y → AtMost y z → AtMost x z
at_most_trans x y z Y h k =
    le_of_mul-le-mul_right (omega (arith, mul-le-mul_right z.over h, mul-le-mul_right x.over k)) Y

pub same_trans : (x y z : Fraction) → 0 < y.over → Same x y → Same y z → Same x z
same_trans x y z Y h k = le_antisymm (at_most_trans x y z Y (le_of_eq h) (le_of_eq k))
    (at_most_trans z y x Y (le_of_eq (sym k)) (le_of_eq (sym h)))

-- whether two closed fractions are the same number is decided by computing
abbrev pub is_same : Fraction → Fraction → Bool
is_same x y = eqb (x.plus * y.over + y.minus * x.over) (y.plus * x.over + x.minus * y.over)

pub same_computed : (x y : Fraction) → T (is_same x y) → Same x y
same_computed x y t = eqb→eq _ _ t

-- ---- kept by sums and products
module _ (x x' y y' : Fraction) (h : Same x x') (k : Same y y') where
  pub same_add : Same (x ⊕ y) (x' ⊕ y')
  same_add =
      simp ring (omega (
        arith,
        simp ring at (ap (λ (t : ℕ). t * (y.over * y'.over)) h),
        simp ring at (ap (λ (t : ℕ). t * (x.over * x'.over)) k),
      ))

  pub same_mul : Same (x ⊗ y) (x' ⊗ y')
  same_mul =
      simp ring (omega (
        arith,
        simp ring at (ap (λ (t : ℕ). t * (y.plus * y'.over)) h),
        simp ring at (ap (λ (t : ℕ). t * (y.minus * y'.over)) h),
        simp ring at (ap (λ (t : ℕ). t * (x'.plus * x.over)) k),
        simp ring at (ap (λ (t : ℕ). t * (x'.minus * x.over)) k),
      ))

-- ---- a comparison is one of numbers: the two sides of it differ by x - y, which is the same number in any fractions
-- of the same two
module _ (x x' y y' : Fraction) (h : Same x x') (k : Same y y') where
  cross : (x.plus * y.over + y.minus * x.over) * (x'.over * y'.over)
      + (y'.plus * x'.over + x'.minus * y'.over) * (x.over * y.over)
      ≡ (x'.plus * y'.over + y'.minus * x'.over) * (x.over * y.over) + (y.plus * x.over + x.minus * y.over)
      * (x'.over * y'.over)
  cross = omega (arith, same_add x x' (opposite y) (opposite y') h (omega arith))

  pub less_same : 0 < x.over → 0 < y.over → Less x' y' → Less x y
  less_same X Y l =
      lt_of_mul-lt-mul_right (x'.over * y'.over) (omega (arith, cross, mul-lt-mul_of_pos_right l (mul-pos X Y)))

  pub at_most_same : 0 < x'.over → 0 < y'.over → AtMost x' y' → AtMost x y
  at_most_same X Y l =
      le_of_mul-le-mul_right (omega (arith, cross, mul-le-mul_right (x.over * y.over) l)) (mul-pos X Y)

pub less_at_most : (x y : Fraction) → Less x y → AtMost x y
less_at_most x y h = le_of_lt h

-- one of two numbers is below the other, or not above it
pub less_not : (x y : Fraction) → AtMost x y → Less y x → ⊥
less_not x y h k = omega arith

pub not_less : (x y : Fraction) → ¬ (Less x y) → AtMost y x
not_less x y n = omega arith

-- one number is below another, or it is not
pub by_side : {X : Type 0} (x y : Fraction) → (Less x y → X) → (AtMost y x → X) → X
by_side {X} x y f g = go (dec_le _ _)
  where
    go : Dec (AtMost y x) → X
    go (yes h) = g h
    go (no n) = f (lt_of_not-le n)

-- not below 0
pub not_below_lem : (x : Fraction) → AtMost (whole 0) x → x.minus ≤ x.plus
not_below_lem x h = omega arith

pub zero_at_most : (x : Fraction) → x.minus ≤ x.plus → AtMost (whole 0) x
zero_at_most x h = omega arith

-- what is left of it, over its `over`, and the same number with nothing to take away
abbrev pub left : Fraction → ℕ
left x = x.plus - x.minus

abbrev pub plain : Fraction → Fraction
plain x = fraction (left x) 0 x.over

pub plain_same : (x : Fraction) → x.minus ≤ x.plus → Same x (plain x)
plain_same x h = omega (arith, ap (λ (n : ℕ). n * x.over) (add-sub_of_le h))

-- ---- and so is a distance
-- of two numbers one is the other and something more: what holds of a, b and gap a b follows from these two cases
pub by_gap : (P : ℕ → ℕ → ℕ → Type 0) → ((b i : ℕ) → P (b + i) b i) → ((a i : ℕ) → P a (a + i) i) → (a b : ℕ)
    → P a b (gap a b)
by_gap P f g a b = go (dec_le b a)
  where
    go : Dec (b ≤ a) → P a b (gap a b)
    go (yes h) =
        subst (λ (i : ℕ). P a b i) (omega arith) (subst (λ (z : ℕ). P z b (a - b)) (add-sub_of_le h) (f b (a - b)))
    go (no n) = subst (λ (i : ℕ). P a b i) (omega arith)
        (subst (λ (z : ℕ). P a z (b - a)) (add-sub_of_le (le_of_lt (lt_of_not-le n))) (g a (b - a)))

pub gap_times : (a b k : ℕ) → gap (a * k) (b * k) ≡ gap a b * k
gap_times a b k = by_gap (λ (a b i : ℕ). gap (a * k) (b * k) ≡ i * k) (λ b i. omega arith) (λ a i. omega arith) a b

pub gap_same : (a b c d : ℕ) → a + d ≡ c + b → gap a b ≡ gap c d
gap_same a b c d h = omega arith

apart_same : (x x' y y' : Fraction) → Same x x' → Same y y'
    → apart x y * (x'.over * y'.over) ≡ apart x' y' * (x.over * y.over)
apart_same x x' y y' h k =
    let K = x.over * y.over in
    let K' = x'.over * y'.over in
    let a = x.plus * y.over + y.minus * x.over in
    let b = y.plus * x.over + x.minus * y.over in
    let a' = x'.plus * y'.over + y'.minus * x'.over in
    let b' = y'.plus * x'.over + x'.minus * y'.over in
    sym (gap_times a b K')
    ∙ gap_same (a * K') (b * K') (a' * K) (b' * K) (cross x x' y y' h k)
    ∙ gap_times a' b' K

near_nat : (d e d' e' xo yo zo xo' yo' zo' : ℕ) → d * (xo' * yo') * (zo * zo') ≡ d' * (xo * yo) * (zo * zo')
    → e * (xo' * zo') * (yo * yo') ≡ e' * (xo * zo) * (yo * yo')
    → d' * zo' * (xo * yo * zo) ≤ e' * yo' * (xo * yo * zo)
    → d * zo * (xo' * yo' * zo') ≤ e * yo * (xo' * yo' * zo')
near_nat d e d' e' xo yo zo xo' yo' zo' h k l = omega arith

pub near_same : (x x' y y' z z' : Fraction) → 0 < x'.over → 0 < y'.over → 0 < z'.over → Same x x' → Same y y'
    → Same z z' → AsNear x' y' z' → AsNear x y z
near_same x x' y y' z z' X Y Z h k j l =
    le_of_mul-le-mul_right
    (near_nat (apart x y) (apart x z) (apart x' y') (apart x' z') x.over y.over z.over x'.over y'.over
    z'.over
    (ap (λ (t : ℕ). t * (z.over * z'.over)) (apart_same x x' y y' h k))
    (ap (λ (t : ℕ). t * (y.over * y'.over)) (apart_same x x' z z' h j))
    (mul-le-mul_right (x.over * y.over * z.over) l)) (mul-pos (mul-pos X Y) Z)
