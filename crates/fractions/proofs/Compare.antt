-- Comparing two floats that are numbers compares the numbers, exactly: nothing is rounded. So a definition that goes by
-- cases on fractions and a program that goes by cases on floats take the same way (`lt_number`, `le_number`). Assumes
-- nothing.
use Rattle.std.specs.Prelude.{◌≡◌, ◌&&◌, ◌||◌, ◌+◌, ◌*◌, ◌<◌}
use Rattle.lists.specs.Prelude.{refl, sym, ap, ◌∙◌, subst, Bool, true, false, not, ℕ, zero-le, le_of_lt}
use Rattle.lists.specs.Prelude.{not-suc-le-zero, arith, ltb-true, ltb-false, eqb-true, not-true, lt-ltb, le-ltb, eq-eqb}
use Rattle.lists.specs.Prelude.{ne_eqb, T, ltb, eqb, Float, up, down, below, level, lt, eq, le}
use lib.Ieee.Bits.{is_true}
use Rattle.lists.proofs.Tests.{order_cases}
use Rattle.fractions.specs.Fraction.{Fraction, signed, number, Same, Less, is_less, AtMost}
use Rattle.fractions.proofs.Order.{less_same, at_most_same}
use Rattle.fractions.proofs.Number.{by_numbers}

-- ---- what a test says
pub less_true : (x y : Fraction) → is_less x y ≡ true → Less x y
less_true x y = ltb-true _ _

pub less_false : (x y : Fraction) → is_less x y ≡ false → AtMost y x
less_false x y = ltb-false _ _

pub is_less_lem : (x y : Fraction) → Less x y → is_less x y ≡ true
is_less_lem x y = lt-ltb _ _

pub is_not_less : (x y : Fraction) → AtMost y x → is_less x y ≡ false
is_not_less x y = le-ltb _ _

-- ---- below, of ±a / c and ±b / d
sides : (a b a' b' : ℕ) → a ≡ a' → b ≡ b' → ltb a b ≡ ltb a' b'
sides a b a' b' p q = λ i. ltb (p i) (q i)

signed_less : (s t : Bool) (a c b d : ℕ) → below s (a * d) t (b * c) ≡ is_less (signed s a c) (signed t b d)
signed_less false false a c b d = sides (a * d) (b * c) (a * d + 0 * c) (b * c + 0 * d) (omega arith) (omega arith)
signed_less false true a c b d = sym (le-ltb (a * d + b * c) (0 * c + 0 * d) (omega arith))
signed_less true false a c b d = sides 0 (a * d + b * c) (0 * d + 0 * c) (b * c + a * d) (omega arith) (omega arith)
signed_less true true a c b d = sides (b * c) (a * d) (0 * d + b * c) (0 * c + a * d) (omega arith) (omega arith)

pub lt_number : (x y : Float) → 0 < (number x).over → 0 < (number y).over → lt x y ≡ is_less (number x) (number y)
unfolding lt
lt_number = by_numbers (λ x y. lt x y ≡ is_less (number x) (number y))
    (λ s m e t n d. signed_less s t (m * up e) (down e) (n * up d) (down d))

-- ---- at most: below, or level, which is not the other way round

-- a < b or a = b, where w is the test of the second
at_most_test : (a b : ℕ) (w : Bool) → (a ≡ b → w ≡ true) → (b < a → w ≡ false) → (ltb a b || w) ≡ not (ltb b a)
at_most_test a b w f g =
    order_cases a b (λ l. ap (λ (z : Bool). z || w) (lt-ltb a b l) ∙ sym (ap not (le-ltb b a (le_of_lt l))))
    (λ e. ap (λ (z : Bool). z || w) (le-ltb a b (omega arith)) ∙ f e ∙ sym (ap not (le-ltb b a (omega arith))))
    (λ l. ap (λ (z : Bool). z || w) (le-ltb a b (le_of_lt l)) ∙ g l ∙ sym (ap not (lt-ltb b a l)))

-- two signs alike, and two unlike: then both are 0
alike : (u v : ℕ) → (u ≡ v → (eqb u v && true) ≡ true) × ((u ≡ v → ⊥) → (eqb u v && true) ≡ false)
alike u v = (λ e. ap (λ (z : Bool). z && true) (eq-eqb u v e), λ n. ap (λ (z : Bool). z && true) (ne_eqb u v n))

both_zero : (u v : ℕ) → u + v ≡ 0 → (eqb u v && eqb u 0) ≡ true
both_zero u v e = λ i. eq-eqb u v (omega arith) i && eq-eqb u 0 (omega arith) i

not_both_zero : (u v : ℕ) → 0 < u + v → (eqb u v && eqb u 0) ≡ false
not_both_zero u v h = go (eqb u v) (eqb u 0) (eqb-true u v) (eqb-true u 0)
  where
    go : (a b : Bool) → (a ≡ true → u ≡ v) → (b ≡ true → u ≡ 0) → (a && b) ≡ false
    go true true p q = absurd (omega (arith, p refl, q refl))
    go true false p q = refl
    go false b p q = refl

signed_at_most : (s t : Bool) (a c b d : ℕ) → (below s (a * d) t (b * c) || level s (a * d) t (b * c))
    ≡ not (is_less (signed t b d) (signed s a c))
signed_at_most false false a c b d =
    at_most_test (a * d) (b * c) _ (alike (a * d) (b * c)).0 (λ l. (alike (a * d) (b * c)).1 (λ e. omega arith))
    ∙ ap not (sides (b * c) (a * d) (b * c + 0 * d) (a * d + 0 * c) (omega arith) (omega arith))
signed_at_most true true a c b d =
    at_most_test (b * c) (a * d) _ (λ e. (alike (a * d) (b * c)).0 (sym e))
    (λ l. (alike (a * d) (b * c)).1 (λ e. omega arith))
    ∙ ap not (sides (a * d) (b * c) (0 * c + a * d) (0 * d + b * c) (omega arith) (omega arith))
signed_at_most true false a c b d =
    at_most_test 0 (a * d + b * c) _ (λ e. both_zero (a * d) (b * c) (sym e)) (λ l. absurd (not-suc-le-zero l))
    ∙ ap not (sides (a * d + b * c) 0 (b * c + a * d) (0 * d + 0 * c) (omega arith) (omega arith))
signed_at_most false true a c b d =
    let w = eqb (a * d) (b * c) && eqb (a * d) 0 in
    sym (ap (λ (z : Bool). z || w) (le-ltb (a * d + b * c) 0 zero-le))
    ∙ at_most_test (a * d + b * c) 0 w (both_zero (a * d) (b * c)) (not_both_zero (a * d) (b * c))
    ∙ ap not (sides 0 (a * d + b * c) (0 * c + 0 * d) (a * d + b * c) (omega arith) refl)

pub le_number : (x y : Float) → 0 < (number x).over → 0 < (number y).over → le x y ≡ not (is_less (number y) (number x))
unfolding le lt eq
le_number = by_numbers (λ x y. le x y ≡ not (is_less (number y) (number x)))
    (λ s m e t n d. signed_at_most s t (m * up e) (down e) (n * up d) (down d))

pub le_at_most : (x y : Float) → T (le x y) → 0 < (number x).over → 0 < (number y).over → AtMost (number x) (number y)
le_at_most x y h X Y = less_false (number y) (number x)
    (not-true (is_less (number y) (number x)) (sym (le_number x y X Y) ∙ is_true (le x y) h))

pub at_most_le : (x y : Float) → 0 < (number x).over → 0 < (number y).over → AtMost (number x) (number y) → T (le x y)
at_most_le x y X Y h = subst T (sym (le_number x y X Y ∙ ap not (is_not_less (number y) (number x) h))) tt

-- ---- other names of the same numbers
pub is_less_same : (x x' y y' : Fraction) → 0 < x.over → 0 < x'.over → 0 < y.over → 0 < y'.over → Same x x'
    → Same y y' → is_less x y ≡ is_less x' y'
is_less_same x x' y y' X X' Y Y' e f = go (is_less x' y') refl
  where
    go : (b : Bool) → is_less x' y' ≡ b → is_less x y ≡ b
    go true h = is_less_lem x y (less_same x x' y y' e f X Y (less_true x' y' h))
    go false h = is_not_less x y (at_most_same y y' x x' f e Y' X' (less_false x' y' h))
