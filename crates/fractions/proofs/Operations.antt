-- Each operation on finite floats is the exact result, rounded once: their sum, difference and product, and the
-- quotient by a float above zero. `add`, `mul` and `div` hand `round` a sign and two whole numbers, which are told here
-- to be those of `⊕`, `⊗` and `⊘`. What follows for the result's error is in Rounding.antt and Near.antt, and where it
-- is exact in Exact.antt. Assumes nothing.
use Rattle.std.specs.Prelude.{◌≡◌, ◌+◌, ◌*◌, ◌-◌, ◌<◌}
use Rattle.lists.specs.Prelude.{refl, sym, ap, ◌∙◌, subst, Bool, true, false, cond, ℕ, zero-le, lt_irrefl, not-le_of_lt}
use Rattle.lists.specs.Prelude.{zero-mul, mul-pos, mul_comm, sub-zero, arith, T, ltb, lt→ltb, Float, nan, inf, fin}
use Rattle.lists.specs.Prelude.{Format, up, down, unlike, round, sum, neg, add, sub, mul, div, ltb-false, ne_eqb}
use lib.Ieee.Fits.{up_pos}
use lib.Ieee.Positive.{positive, first_pos}
use Rattle.lists.proofs.Tests.{by_test, by_less, cond_false}
use Rattle.fractions.specs.Fraction.{Fraction, fraction, signed, number, ◌⊕◌, ◌⊖◌, ◌⊗◌, ◌⊘◌}
use Rattle.fractions.proofs.Rounding.{Difference, Result}
use Rattle.fractions.proofs.Number.{by_number, by_numbers, by_positive, number_neg}

-- ---- products
mul_difference : (s t : Bool) (a b c d : ℕ) → Difference (unlike s t) (a * b) (signed s a c ⊗ signed t b d)
mul_difference false false a b c d = omega arith
mul_difference false true a b c d = omega arith
mul_difference true false a b c d = omega arith
mul_difference true true a b c d = omega arith

pub mul_result : (f : Format) (x y : Float) → 0 < (number x).over → 0 < (number y).over
    → Result f (mul f x y) (number x ⊗ number y)
unfolding mul
mul_result f =
    by_numbers (λ x y. Result f (mul f x y) (number x ⊗ number y))
    (λ s m e t n d. record {
      sign = unlike s t;
      size = m * up e * (n * up d);
      difference = mul_difference s t (m * up e) (n * up d) (down e) (down d);
      is = refl;
    })

-- ---- sums: ±a / c + ±b / c
abbrev two : Bool → ℕ → Bool → ℕ → ℕ → Fraction
two s a t b c = fraction (cond s 0 a + cond t 0 b) (cond s a 0 + cond t b 0) c

module _ (f : Format) (a b c : ℕ) where
  sum_result : (s t : Bool) → Result f (sum f s a t b c) (two s a t b c)
  unfolding sum
  sum_result false false = record { sign = false; size = a + b; difference = omega arith; is = refl }
  sum_result true true = record { sign = true; size = a + b; difference = omega arith; is = refl }
  sum_result false true =
      by_less (λ (x : Float). Result f x (two false a true b c)) a b
      (λ l. record { sign = true; size = b - a; difference = omega arith; is = refl })
      (λ l. record { sign = false; size = a - b; difference = omega arith; is = refl })
  sum_result true false =
      by_less (λ (x : Float). Result f x (two true a false b c)) a b
      (λ l. record { sign = false; size = b - a; difference = omega arith; is = refl })
      (λ l. by_test (λ (y : Bool). Result f (round f y (a - b) c) (two true a false b c)) (ltb b a)
      (λ e. record { sign = true; size = a - b; difference = omega arith; is = refl })
      (λ e. record { sign = false; size = a - b; difference = omega (arith, ltb-false b a e); is = refl }))

left : (s : Bool) (a d : ℕ) → cond s 0 (a * d) ≡ cond s 0 a * d
left true a d = sym (zero-mul d)
left false a d = refl

right : (s : Bool) (a d : ℕ) → cond s (a * d) 0 ≡ cond s a 0 * d
right true a d = refl
right false a d = sym (zero-mul d)

two_is : (s t : Bool) (a b c d : ℕ) → two s (a * d) t (b * c) (c * d) ≡ signed s a c ⊕ signed t b d
two_is s t a b c d = λ i. fraction (left s a d i + left t b c i) (right s a d i + right t b c i) (c * d)

pub add_result : (f : Format) (x y : Float) → 0 < (number x).over → 0 < (number y).over
    → Result f (add f x y) (number x ⊕ number y)
unfolding add
add_result f =
    by_numbers (λ x y. Result f (add f x y) (number x ⊕ number y))
    (λ s m e t n d. rw (← two_is s t (m * up e) (n * up d) (down e) (down d))
    (sum_result f (m * up e * down d) (n * up d * down e) (down e * down d) s t))

pub sub_result : (f : Format) (x y : Float) → 0 < (number x).over → 0 < (number y).over
    → Result f (sub f x y) (number x ⊖ number y)
unfolding sub
sub_result f x y p q = subst (λ (z : Fraction). 0 < z.over → Result f (add f x (neg y)) (number x ⊕ z)) (number_neg y)
    (add_result f x (neg y) p) q

-- ---- quotients by a float above zero
div_difference : (s : Bool) (a b c d : ℕ) → Difference (unlike s false) (a * d) (signed s a c ⊘ signed false b d)
div_difference false a b c d = omega arith
div_difference true a b c d = omega arith

pub positive_number : (y : Float) → T (positive y) → 0 < (number y).plus - (number y).minus
positive_number = by_positive (λ y. 0 < (number y).plus - (number y).minus)
    (λ m e h. rw (sub-zero (m * up e)) (mul-pos h (up_pos e)))

pub number_positive : (y : Float) → (number y).minus < (number y).plus → T (positive y)
number_positive nan h = absurd (lt_irrefl 0 h)
number_positive (inf s) h = absurd (lt_irrefl 0 h)
number_positive (fin true m e) h = absurd (not-le_of_lt h zero-le)
number_positive (fin false m e) h = lt→ltb 0 m (first_pos m (up e) h)

pub div_result : (f : Format) (x y : Float) → 0 < (number x).over → T (positive y)
    → Result f (div f x y) (number x ⊘ number y)
unfolding div
div_result f x y p q =
    by_number (λ x. Result f (div f x y) (number x ⊘ number y)) (λ s m e.
    by_positive (λ y. Result f (div f (fin s m e) y) (number (fin s m e) ⊘ number y)) (λ n d l. record {
      sign = unlike s false;
      size = m * up e * down d;
      difference = div_difference s (m * up e) (n * up d) (down e) (down d);
      is = cond_false _ _ (ne_eqb n 0 (λ z. omega arith)) ∙ ap (round f (unlike s false) (m * up e * down d))
          (mul_comm (n * up d) (down e) ∙ ap (λ (k : ℕ). down e * k) (sym (sub-zero (n * up d))));
    }) y q) x p
