-- Two ways to write a formula are the same number. Where the two are even equal as fractions, number by number, the law
-- is a path, for `rw` and `ap`; a law that changes what stands under the line (distribution, a common factor) is a
-- `Same`. With the congruences here and in Order.antt they tie the order in which a document writes a formula to the
-- order in which a program computes it. Assumes nothing.
use Rattle.std.specs.Prelude.{◌≡◌, ◌+◌, ◌*◌, ◌-◌, ◌≤◌}
use Rattle.lists.specs.Prelude.{sym, ap, subst₂, ℕ, sub-zero, add-sub_of_le, arith}
use Rattle.fractions.specs.Fraction.{Fraction, fraction, whole, opposite, square, ◌⊕◌, ◌⊖◌, ◌⊗◌, ◌⊘◌, Same}
use Rattle.fractions.proofs.Ring.{ring}
use Rattle.fractions.proofs.Order.{same_refl, same_add, same_mul, left}

pub equal_same : {x y : Fraction} → x ≡ y → Same x y
equal_same {x} {y} e = rw (← e) (same_refl x)

pub equal : {p p' m m' o o' : ℕ} → p ≡ p' → m ≡ m' → o ≡ o' → fraction p m o ≡ fraction p' m' o'
equal a b c = λ i. fraction (a i) (b i) (c i)

-- ---- 0, 1 and the opposite

module _ (x : Fraction) where
  pub ⊕-zero : x ⊕ whole 0 ≡ x
  ⊕-zero = equal (omega arith) (omega arith) (omega arith)

  pub zero-⊕ : whole 0 ⊕ x ≡ x
  zero-⊕ = equal (omega arith) (omega arith) (omega arith)

  pub ⊗-one : x ⊗ whole 1 ≡ x
  ⊗-one = equal (omega arith) (omega arith) (omega arith)

  pub one-⊗ : whole 1 ⊗ x ≡ x
  one-⊗ = equal (omega arith) (omega arith) (omega arith)

  -- 1 / n times a number is the number over n, and over 1 it stays
  pub part-⊗ : (n : ℕ) → fraction 1 0 n ⊗ x ≡ x ⊘ whole n
  part-⊗ n = equal (omega arith) (omega arith) (rw (sub-zero n) (omega arith))

  pub over_one : x ⊘ whole 1 ≡ x
  over_one = equal (omega arith) (omega arith) (omega arith)

-- ---- order and grouping
module _ (x y : Fraction) where
  pub ⊕-comm : x ⊕ y ≡ y ⊕ x
  ⊕-comm = equal (omega arith) (omega arith) (omega arith)

  pub ⊗-comm : x ⊗ y ≡ y ⊗ x
  ⊗-comm = equal (omega arith) (omega arith) (omega arith)

  pub opposite-⊗ : opposite x ⊗ y ≡ opposite (x ⊗ y)
  opposite-⊗ = equal (omega arith) (omega arith) (omega arith)

  pub ⊗-opposite : x ⊗ opposite y ≡ opposite (x ⊗ y)
  ⊗-opposite = equal (omega arith) (omega arith) (omega arith)

  -- x (1 / y) is x / y
  pub inverse : x ⊗ (whole 1 ⊘ y) ≡ x ⊘ y
  inverse = equal (omega arith) (omega arith) (omega arith)

module _ (x y z : Fraction) where
  pub ⊕-assoc : x ⊕ y ⊕ z ≡ x ⊕ (y ⊕ z)
  ⊕-assoc = equal (omega arith) (omega arith) (omega arith)

  pub ⊗-assoc : x ⊗ y ⊗ z ≡ x ⊗ (y ⊗ z)
  ⊗-assoc = equal (omega arith) (omega arith) (omega arith)

  pub ⊗-over : x ⊗ y ⊘ z ≡ x ⊗ (y ⊘ z)
  ⊗-over = equal (omega arith) (omega arith) (omega arith)

  pub ⊗-⊕ : Same (x ⊗ (y ⊕ z)) (x ⊗ y ⊕ x ⊗ z)
  ⊗-⊕ = simp ring (omega arith)

-- ---- congruences, beside `same_add` and `same_mul`
pub same_opposite : (x y : Fraction) → Same x y → Same (opposite x) (opposite y)
same_opposite x y h = omega arith

module _ (x x' y y' : Fraction) (h : Same x x') (k : Same y y') where
  pub same_sub : Same (x ⊖ y) (x' ⊖ y')
  same_sub = same_add x x' (opposite y) (opposite y') h (same_opposite y y' k)

pub same_square : (x x' : Fraction) → Same x x' → Same (square x) (square x')
same_square x x' h = same_mul x x' x x' h h

-- the divisors are not below 0, so their differences are whole numbers
rest_nat : (p m o p' m' o' : ℕ) → m ≤ p → m' ≤ p' → p * o' + m' * o ≡ p' * o + m * o' → (p - m) * o' ≡ (p' - m') * o
rest_nat p m o p' m' o' h h' e =
    omega (
      arith,
      subst₂ (λ (n n' : ℕ). n * o' + m' * o ≡ n' * o + m * o') (sym (add-sub_of_le h))
          (sym (add-sub_of_le h')) e,
    )

module _ (x x' y y' : Fraction) where
  pub same_divide : y.minus ≤ y.plus → y'.minus ≤ y'.plus → Same x x' → Same y y' → Same (x ⊘ y) (x' ⊘ y')
  same_divide Y Y' h k =
      let z = left y in
      let z' = left y' in
      let e = rest_nat y.plus y.minus y.over y'.plus y'.minus y'.over Y Y' k in
      omega (
        arith,
        ap (λ (t : ℕ). t * (y.over * z')) h,
        ap (λ (t : ℕ). x'.minus * x.over * t) e,
        ap (λ (t : ℕ). x'.plus * x.over * t) e,
      )
