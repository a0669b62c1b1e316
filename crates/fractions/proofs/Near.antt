-- The calculus of errors: `Near W x q M E` says that x and q are numbers, |x - q| ≤ E / W and |q| ≤ M / W. A law for
-- each operation of either format: from what is known of the operands it gives a bound for the result against the exact
-- one, in whole numbers that compute. Assumes nothing.
use Rattle.std.specs.Prelude.{◌+◌, ◌*◌, ◌-◌, ◌^◌, ◌≤◌, ◌<◌}
use Rattle.lists.specs.Prelude.{refl, Bool, true, false, ℕ, zero-le, le_trans, le_of_eq, le_of_lt, mul-one, mul-pos}
use Rattle.lists.specs.Prelude.{sub-pos_iff_lt, sub-add_cancel, lt_of_le_of_lt, arith, T, pow_pos, Float, Format, prec}
use Rattle.lists.specs.Prelude.{low, round, neg, add, sub, mul, div}
use Rattle.fractions.specs.Fraction.{Fraction, opposite, signed, number, ◌⊕◌, ◌⊖◌, ◌⊗◌, ◌⊘◌}
use Rattle.fractions.proofs.Close.{Close, Size, Least, close_opposite, same_close, close_trans, close_add}
use Rattle.fractions.proofs.Close.{close_mul, size_opposite, size_unit, size_near, size_add, size_mul, ceiling}
use Rattle.fractions.proofs.Close.{ceiling_ge}
use Rattle.fractions.proofs.Number.{number_neg, value_same, value_number}
use Rattle.fractions.proofs.Rounding.{rounding, fine, fine_unit, fine_most, rounds_close, Result}
use Rattle.fractions.proofs.Rounding.{signed_difference, result_rounds}
use Rattle.fractions.proofs.Operations.{add_result, mul_result, div_result, number_positive}
use Rattle.fractions.proofs.Exact.{literal_held}
use Rattle.fractions.proofs.Divide.{least_near, least_positive, size_divide, close_divide}

pub record Near (W : ℕ) (x q : Fraction) (M E : ℕ) : Type 0 where
  pub close : Close W x q E
  pub size : Size W q M

-- |x| ≤ (M + E) / W
pub near_size : {W M E : ℕ} {x q : Fraction} → Near W x q M E → Size W x (M + E)
near_size a = size_near a.close a.size

-- a result of magnitude B / W does not overflow, and is moved by `rounding f B` units at most
pub result_close : (f : Format) {W B : ℕ} {z : Float} {q : Fraction} → T (fine f W B) → 0 < q.over → Size W q B
    → Result f z q → Close W (number z) q (rounding f B)
result_close f {W} {B} t D s r = rounds_close f t s
    (result_rounds f D (size_unit (fine_unit f W B t) (le_trans (le_of_eq (mul-one B)) (fine_most f W B t)) s) r)

module _ (f : Format) {W M E N F : ℕ} {q r : Fraction} (x y : Float) (a : Near W (number x) q M E)
    (b : Near W (number y) r N F) where
  pub near_add : T (fine f W (M + E + (N + F))) → Near W (number (add f x y)) (q ⊕ r) (M + N)
      (rounding f (M + E + (N + F)) + (E + F))
  near_add t =
      let s = size_add (near_size a) (near_size b) in
      record {
        close = close_trans (result_close f t (mul-pos a.close.first b.close.first) s
            (add_result f x y a.close.first b.close.first)) (close_add a.close b.close);
        size = size_add a.size b.size;
      }

  pub near_mul : T (fine f W (ceiling ((M + E) * (N + F)) W))
      → Near W (number (mul f x y)) (q ⊗ r) (ceiling (M * N) W)
      (rounding f (ceiling ((M + E) * (N + F)) W) + ceiling (E * (N + F) + M * F) W)
  near_mul t =
      let w = fine_unit f W _ t in
      let s = size_mul (ceiling ((M + E) * (N + F)) W) w (ceiling_ge ((M + E) * (N + F)) W w) (near_size a)
      (near_size b) in
      record {
        close = close_trans (result_close f t (mul-pos a.close.first b.close.first) s
            (mul_result f x y a.close.first b.close.first))
            (close_mul (ceiling (E * (N + F) + M * F) W) w (ceiling_ge (E * (N + F) + M * F) W w) a.close b.close
            a.size (near_size b));
        size = size_mul (ceiling (M * N) W) w (ceiling_ge (M * N) W w) a.size b.size;
      }

pub near_neg : {W M E : ℕ} {q : Fraction} (x : Float) → Near W (number x) q M E
    → Near W (number (neg x)) (opposite q) M E
near_neg x a =
    rw (number_neg x) (record { close = close_opposite a.close; size = size_opposite a.size })

pub near_sub : (f : Format) {W M E N F : ℕ} {q r : Fraction} (x y : Float) → Near W (number x) q M E
    → Near W (number y) r N F → T (fine f W (M + E + (N + F)))
    → Near W (number (sub f x y)) (q ⊖ r) (M + N) (rounding f (M + E + (N + F)) + (E + F))
unfolding sub
near_sub f x y a b t = near_add f x (neg y) a (near_neg y b) t

-- ---- a quotient by a divisor of L / W at least, itself F / W off
abbrev pub quotient_most : ℕ → ℕ → ℕ → ℕ
quotient_most W M L = ceiling (M * W) L

abbrev pub quotient_result : ℕ → ℕ → ℕ → ℕ → ℕ → ℕ
quotient_result W M E L F = ceiling ((M + E) * W) (L - F)

abbrev pub quotient_error : Format → ℕ → ℕ → ℕ → ℕ → ℕ → ℕ
quotient_error f W M E L F = rounding f (quotient_result W M E L F) + ceiling (W * (E * L + M * F)) ((L - F) * L)

pub near_div : (f : Format) {W M E F L : ℕ} {q r : Fraction} (x y : Float) → Near W (number x) q M E
    → Close W (number y) r F → Least W r L → F < L → T (fine f W (quotient_result W M E L F))
    → Near W (number (div f x y)) (q ⊘ r) (quotient_most W M L) (quotient_error f W M E L F)
near_div f {W} {M} {E} {F} {L} {q} {r} x y a b l h t =
    let w = fine_unit f W _ t in
    let B = quotient_result W M E L F in
    let G = ceiling (W * (E * L + M * F)) ((L - F) * L) in
    let k : 0 < L - F = sub-pos_iff_lt.1 h in
    let lp = lt_of_le_of_lt zero-le h in
    let i = le_of_eq (sub-add_cancel (le_of_lt h)) in
    let v = least_near (L - F) i b l in
    let y>0 = least_positive k b.first v in
    let s : Size W (number x ⊘ number y) B = size_divide B k b.first (ceiling_ge ((M + E) * W) (L - F) k)
    (near_size a) v in
    record {
      close = close_trans (result_close f t (mul-pos a.close.first (sub-pos_iff_lt.1 y>0)) s
          (div_result f x y a.close.first (number_positive y y>0)))
          (close_divide G (L - F) w k i (ceiling_ge (W * (E * L + M * F)) ((L - F) * L) (mul-pos k lp)) a.close b
          a.size l);
      size = size_divide (quotient_most W M L) lp b.second (ceiling_ge (M * W) L lp) a.size l;
    }

-- ---- literals: ±n / d is the float nearest to it, and ±n / 2 ^ j is held as it is, n having no more digits than the
-- format keeps
signed_size : (s : Bool) (n d W B : ℕ) → n * W ≤ B * d → Size W (signed s n d) B
signed_size false n d W B h = record { above = omega arith; below = omega arith }
signed_size true n d W B h = record { above = omega arith; below = omega arith }

pub near_literal : (f : Format) (W : ℕ) (s : Bool) (n d : ℕ) → 0 < d → T (fine f W (ceiling (n * W) d))
    → Near W (number (round f s n d)) (signed s n d) (ceiling (n * W) d) (rounding f (ceiling (n * W) d))
near_literal f W s n d D t =
    let B = ceiling (n * W) d in
    let m = signed_size s n d W B (ceiling_ge (n * W) d D) in
    record {
      close = result_close f t D m
          (record { sign = s; size = n; difference = signed_difference s n d; is = refl });
      size = m;
    }

pub near_held : (f : Format) (W : ℕ) (s : Bool) (n j : ℕ) → n < 2 ^ prec f → j ≤ low f
    → Near W (number (round f s n (2 ^ j))) (signed s n (2 ^ j)) (ceiling (n * W) (2 ^ j)) 0
near_held f W s n j h l =
    let x = round f s n (2 ^ j) in
    let v = literal_held f s n j h l in
    record {
      close = same_close W (number x) (signed s n (2 ^ j)) (value_number x s n (2 ^ j) v) (pow_pos j)
          (value_same x s n (2 ^ j) v);
      size = signed_size s n (2 ^ j) W _ (ceiling_ge (n * W) (2 ^ j) (pow_pos j));
    }
