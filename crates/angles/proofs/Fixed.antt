-- The program's numbers as fractions: a whole number v stands for v / 2 ^ 60, and what the program makes of numbers
-- near exact ones is near what the exact ones make. Errors are counted in units of 2 ^ -60. Assumes nothing.
use Rattle.std.specs.Prelude.{◌≡◌, ◌+◌, ◌-◌, ◌*◌, ◌/◌, ◌≤◌, ◌<◌}
use Rattle.lists.specs.Prelude.{refl, Bool, ℕ, zero, suc, le_of_lt, mul-pos, mul_comm, mul-le-mul_right, sub-zero}
use Rattle.lists.specs.Prelude.{div-mul-le_self, lt-div-mul-add, div-div-eq-div-mul, arith, ltb, lit<, lit≤, pow_pos}
use Rattle.lists.specs.Prelude.{ltb-true, ltb-false}
use Rattle.lists.proofs.Tests.{by_test}
use Rattle.fractions.specs.Fraction.{Fraction, fraction, whole, signed, ◌⊖◌, ◌⊗◌, ◌⊘◌, Same}
use Rattle.fractions.proofs.Order.{same_refl}
use Rattle.fractions.proofs.Close.{Close, Size, close_same, close_wider, close_trans, close_unit, close_sub, close_mul}
use Rattle.fractions.proofs.Close.{same_close}
use Rattle.fractions.proofs.Divide.{close_over}
use Rattle.series.proofs.Nested.{nested}
use Rattle.angles.specs.Computed.{one, times, nesting, nest, from_one}
use Rattle.angles.proofs.Room.{nest_most, twelve, nesting_most, divisor_positive}

abbrev pub fixed : ℕ → Fraction
fixed v = fraction v 0 one

-- ---- a product, divided by c and cut

-- q is what is left of a b over o and c; o stands for 2 ^ 60
cut_nat : (a b c o q : ℕ) → 0 < c → 0 < o → q * (c * o) ≤ a * b → a * b ≤ q * (c * o) + c * o
    → Close o (fraction q 0 o) (fraction a 0 o ⊗ fraction b 0 o ⊘ whole c) 1
cut_nat a b c o q C O h k =
    rw (sub-zero c)
    (record {
      first = O;
      second = mul-pos (mul-pos O O) C;
      above = omega (arith, mul-le-mul_right (o * o) h);
      below = omega (arith, mul-le-mul_right (o * o) k);
    })

module _ (a b c : ℕ) (C : 0 < c) where
  twice_cut : a * b / one / c ≡ a * b / (c * one)
  twice_cut = rw (div-div-eq-div-mul (a * b) one c, mul_comm one c) refl

  cut_close : Close one (fixed (a * b / one / c)) (fixed a ⊗ fixed b ⊘ whole c) 1
  cut_close = cut_nat a b c one (a * b / one / c) C (pow_pos 60) (rw twice_cut (div-mul-le_self (a * b) (c * one)))
      (rw twice_cut (le_of_lt (lt-div-mul-add (mul-pos C (pow_pos 60)))))

-- numbers divided by c are c times as near
part_close : {G : ℕ} {x y : Fraction} (e c : ℕ) → 0 < c → G ≤ e * c → Close one x y G
    → Close one (x ⊘ whole c) (y ⊘ whole c) e
part_close {G} e c C g h = close_unit (rw (sub-zero c) (mul-pos (pow_pos 60) C))
    (rw (sub-zero c) (omega (arith, mul-le-mul_right one g))) (close_over (whole c) C h)

-- y is a away from Y, which is n at most, f is b away from F and k at most: the product over c, cut, is 1 + (a k + n b)
-- / c away from Y F / c
pub product_close : {y f a b : ℕ} {Y F : Fraction} (c n k e : ℕ) → 0 < c → f ≤ k * one → Size one Y (n * one)
    → a * k + n * b ≤ e * c → Close one (fixed y) Y a → Close one (fixed f) F b
    → Close one (fixed (y * f / one / c)) (Y ⊗ F ⊘ whole c) (1 + e)
product_close {y} {f} {a} {b} {Y} {F} c n k e C l m g hy hf =
    close_trans (cut_close y f c C)
    (part_close e c C g (close_mul (a * k + n * b) (pow_pos 60) (turn a k n b) hy hf m
    (record { above = omega (arith, mul-le-mul_right one l); below = omega arith })))
  where
    turn : (a k n b : ℕ) → a * (k * one) + n * one * b ≤ (a * k + n * b) * one
    turn a k n b = omega arith

-- ---- 1 less a number, of either sign

module _ {g e : ℕ} {Z : Fraction} (c : Close one (fixed g) Z e) where
  one_less : Close one (whole 1 ⊖ fixed g) (whole 1 ⊖ Z) e
  one_less = close_wider (close_sub (same_close one (whole 1) (whole 1) (lit< tt) (lit< tt) refl) c) (omega arith)

  renamed : (x : Fraction) → 0 < x.over → Same x (whole 1 ⊖ fixed g) → Close one x (whole 1 ⊖ Z) e
  renamed x X h =
      close_same x (whole 1 ⊖ Z) X (mul-pos {m = 1} (lit< tt) c.second) h (same_refl (whole 1 ⊖ Z)) one_less

  rest_upright : g ≤ one → Close one (fixed (one - g)) (whole 1 ⊖ Z) e
  rest_upright h = renamed (fixed (one - g)) (pow_pos 60) (omega arith)

  -- as how far it is from 1, and its sign
  rest_close : Close one (signed (ltb one g) (from_one g) one) (whole 1 ⊖ Z) e
  rest_close = renamed (signed (ltb one g) (from_one g) one) (pow_pos 60) the_rest
    where
      the_rest : Same (signed (ltb one g) (from_one g) one) (whole 1 ⊖ fixed g)
      the_rest =
          by_test (λ (b : Bool). Same (signed b (from_one g) one) (whole 1 ⊖ fixed g)) (ltb one g)
          (λ e. omega (arith, ltb-true one g e)) (λ e. omega (arith, ltb-false one g e))

-- ---- the nestings

-- y is x squared, 17 away, and 10 at most
module _ (y : ℕ) (Y : Fraction) (c : Close one (fixed y) Y 17) (s : Size one Y (10 * one)) where
  nesting_close : (j n e : ℕ) → 167 ≤ e * ((j + 1) * (j + 2))
      → Close one (fixed (nest y (j + 2) n)) (nested Y (j + 2) n) 15
      → Close one (fixed (nesting y (nest y (j + 2) n) j)) (Y ⊗ nested Y (j + 2) n ⊘ whole ((j + 1) * (j + 2))) (1 + e)
  unfolding nesting times
  nesting_close j n e h d = product_close ((j + 1) * (j + 2)) 10 1 e (divisor_positive j)
      (omega (arith, nest_most y (j + 2) n)) s (omega (arith, h)) c d

  nest_close : y ≤ 12 * one → (n j : ℕ) → 2 ≤ j → Close one (fixed (nest y j n)) (nested Y j n) 15
  unfolding nest nested
  nest_close m zero j h = close_wider (same_close one (fixed one) (whole 1) (pow_pos 60) (lit< tt) refl) (lit≤ tt)
  nest_close m (suc n) j h =
      rest_upright (nesting_close j n 14 (omega (arith, twelve j h)) (nest_close m n (j + 2) (omega arith)))
      (nesting_most y (nest y (j + 2) n) j m (nest_most y (j + 2) n) h)

  -- 1 less the outermost nesting
  pub bracket_close : y ≤ 12 * one → (j n e : ℕ) → 167 ≤ e * ((j + 1) * (j + 2))
      → let g = nesting y (nest y (j + 2) n) j in Close one (signed (ltb one g) (from_one g) one) (nested Y j (suc n))
      (1 + e)
  unfolding nested
  bracket_close m j n e h = rest_close (nesting_close j n e h (nest_close m n (j + 2) (omega arith)))
