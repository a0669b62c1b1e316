-- What the program's tests of a float say of the root: zero, not above zero, infinite, and above zero. Each case ends
-- in the one answer that `root_answer` gives, and that answer is what document 01 says (`root_promised`). Assumes
-- nothing.
use Rattle.std.specs.Prelude.{◌≡◌, ◌⊎◌, ◌&&◌, ◌||◌, ◌+◌, ◌-◌, ◌*◌, ◌/◌, ◌%◌, ◌^◌, ◌≤◌, ◌<◌}
use Rattle.lists.specs.Prelude.{refl, sym, ap, ◌∙◌, subst, inl, inr, Bool, true, false, not, bool_beq, ℕ, zero, suc}
use Rattle.lists.specs.Prelude.{not-le_of_lt, lt_irrefl, zero-lt-suc, zero-mul, mul-one, mul-pos, mul_assoc}
use Rattle.lists.specs.Prelude.{mul_left_comm, eq-zero-or-pos, pow-succ', add-one, arith, ℤ, pos, T, eqb, eqb→eq}
use Rattle.lists.specs.Prelude.{ltb→lt, lt→ltb, pow-add, Float, nan, inf, fin, binary64, up, down, units, lt, eq, fits}
use Rattle.lists.specs.Prelude.{is_nan, of_bits, nan_bits, to_bits}
use denote.Floats.{passes}
use lib.Ieee.Fits.{up_pos, and_l}
use lib.Ieee.Bits.{of_bits-to_bits, nan_bits_is}
use lib.Ieee.Exact.{HasValue}
use lib.Ieee.Positive.{positive}
use Rattle.formats.proofs.Patterns.{digits, unpack, units_no_nan, zero_bits}
use Rattle.formats.proofs.Grid.{finite_below}
use Rattle.refusals.proofs.First.{answered_accepted}
use Rattle.numbers.specs.Roots.{rootless}
use Rattle.formats.specs.Floats.{zero_float}
use Rattle.numbers.specs.Computed.{WholeRoot, root_units, root_of, refusal_of, root_answer, Parted}
use Rattle.numbers.specs.Promise.{RootPromise}
use Rattle.numbers.specs.Computed.{Rooted}
use Rattle.numbers.proofs.Rooting.{root_of_value, rooted, root_digits}
use Rattle.numbers.proofs.Middle.{root_nearest}
use Rattle.numbers.proofs.RootAnswer.{root_accepted}

-- ---- the answer is what document 01 says
accepted : (x : Float) → T (positive x) → record { refusal = 0; value = root_of binary64 x } ≡ root_answer x
accepted x p = sym (answered_accepted (record { refusal = 0; value = root_of binary64 x })
    (λ n. record { refusal = n; value = zero_float }) (refusal_of x) (root_accepted x p))

refused : (x : Float) → T (rootless x) → ((root_answer x).refusal ≡ 10) × ((root_answer x).value ≡ zero_float)
unfolding root_of
refused nan t = (refl, refl)
refused (inf s) t = (refl, refl)
refused (fin s zero e) t = absurd t
refused (fin true (suc m) e) t = (refl, refl)
refused (fin false (suc m) e) t = absurd t

kept : (s : Bool) → ((root_answer (fin s 0 (pos 0))).refusal ≡ 0)
    × ((root_answer (fin s 0 (pos 0))).value ≡ fin s 0 (pos 0))
unfolding root_of
kept s = (refl, refl)

pub root_promised : (x : Float) (r : Rooted) → T (fits binary64 x) → r ≡ root_answer x → RootPromise x r
root_promised x r h e = subst (λ (a : Rooted). RootPromise x a) (sym e) record {
  bits = refl;
  words = record {
    refused = refused x;
    kept = λ s z. rw z (kept s);
    nearest = λ p. rw (← accepted x p) (refl, root_nearest binary64 x h p);
  };
}

-- ---- the tests
abbrev answer : ℕ → Float → Rooted
answer n v = record { refusal = n; value = v }

pub zero_answer : answer 10 (of_bits binary64 0) ≡ answer 10 zero_float
zero_answer = ap (answer 10) (zero_bits binary64)

some_size : (m : ℕ) (e : ℤ) → 0 < suc m * up e * 1
some_size m e = rw (mul-one (suc m * up e)) (mul-pos (zero-lt-suc m) (up_pos e))

no_size : (d : ℕ) → 0 * 1 * d ≡ 0
no_size d = zero-mul d

-- x == 0.0
pub when_zero : (x : Float) → eq x zero_float ≡ true → answer 0 x ≡ root_answer x
unfolding eq root_of
when_zero nan h = absurd (passes false h)
when_zero (inf s) h = absurd (passes false h)
when_zero (fin s zero e) h = refl
when_zero (fin s (suc m) e) h =
    absurd (lt_irrefl 0
    (rw (← eqb→eq (suc m * up e * 1) (0 * 1 * down e)
    (and_l (eqb (suc m * up e * 1) (0 * 1 * down e)) (bool_beq s false || eqb (suc m * up e * 1) 0) (passes _ h))
    ∙ no_size (down e)) (some_size m e)))

-- neither x == 0.0 nor x > 0.0
pub when_not_above : (x : Float) → eq x zero_float ≡ false → lt zero_float x ≡ false
    → answer 10 zero_float ≡ root_answer x
unfolding eq lt root_of
when_not_above nan h k = refl
when_not_above (inf s) h k = refl
when_not_above (fin s zero e) h k = absurd
    (subst T h (zeros s (0 * up e * 1) (0 * 1 * down e) (mul-one (0 * up e) ∙ zero-mul (up e)) (no_size (down e))))
  where
    zeros : (s : Bool) (a b : ℕ) → a ≡ 0 → b ≡ 0 → T (eqb a b && (bool_beq s false || eqb a 0))
    zeros true a b p q = subst (λ (z : ℕ). T (eqb z b && (false || eqb z 0))) (sym p)
        (rw q tt)
    zeros false a b p q = rw p (rw q tt)
when_not_above (fin true (suc m) e) h k = refl
when_not_above (fin false (suc m) e) h k = absurd
    (subst T k (lt→ltb (0 * 1 * down e) (suc m * up e * 1)
    (rw (no_size (down e)) (some_size m e))))

-- x > 0.0
pub above_no_nan : (x : Float) → lt zero_float x ≡ true → T (not (is_nan x))
unfolding lt is_nan
above_no_nan nan h = passes false h
above_no_nan (inf s) h = tt
above_no_nan (fin s m e) h = tt

zero_not_above : (s : Bool) (e : ℤ) → lt zero_float (fin s zero e) ≡ true → ⊥
unfolding lt
zero_not_above true e h = passes false h
zero_not_above false e h =
    lt_irrefl 0 (subst (λ (x : ℕ). 0 < x) (mul-one (0 * up e) ∙ zero-mul (up e))
    (subst (λ (x : ℕ). x < 0 * up e * 1) (no_size (down e))
    (ltb→lt (0 * 1 * down e) (0 * up e * 1) (passes _ h))))

-- a pattern no less than the infinity's
pub when_infinite : (x : Float) → T (fits binary64 x) → lt zero_float x ≡ true → 2047 * 2 ^ 52 ≤ to_bits binary64 x
    → answer 10 zero_float ≡ root_answer x
unfolding lt root_of
when_infinite nan t h k = absurd (passes false h)
when_infinite (inf s) t h k = refl
when_infinite (fin s zero e) t h k = absurd (zero_not_above s e h)
when_infinite (fin true (suc m) e) t h k = refl
when_infinite (fin false (suc m) e) t h k = absurd (not-le_of_lt (finite_below binary64 (suc m) e t) k)

-- a pattern below it
is_positive : (x : Float) → lt zero_float x ≡ true → to_bits binary64 x < 2047 * 2 ^ 52 → T (positive x)
unfolding lt
is_positive nan h k = absurd (passes false h)
is_positive (inf true) h k = absurd (passes false h)
is_positive (inf false) h k = absurd (lt_irrefl (2047 * 2 ^ 52) (unfold to_bits in k))
is_positive (fin true m e) h k = absurd (passes false h)
is_positive (fin false zero e) h k = absurd (zero_not_above false e h)
is_positive (fin false (suc m) e) h k = lt→ltb 0 (suc m) (zero-lt-suc m)

pub bits_positive : (x : Float) → T (fits binary64 x) → lt zero_float x ≡ true → 0 < to_bits binary64 x
unfolding lt
bits_positive x t h = go (eq-zero-or-pos (to_bits binary64 x))
  where
    go : (to_bits binary64 x ≡ 0) ⊎ (0 < to_bits binary64 x) → 0 < to_bits binary64 x
    go (inr p) = p
    go (inl z) = absurd (passes (lt zero_float zero_float)
        (ap (lt zero_float) (sym (zero_bits binary64) ∙ ap (of_bits binary64) (sym z) ∙ of_bits-to_bits binary64 x t)
        ∙ h))

pub root_short : (m r : ℕ) → 2 ^ 52 ≤ m → m < 2 ^ 54 → WholeRoot (m * 2 ^ 54) r → r < 2 ^ 54
root_short m r lo hi h = (root_digits 53 (m * 2 ^ 54) r (omega arith) (omega arith) h).1

module _ (x : Float) (m half r : ℕ) (t : T (fits binary64 x)) (h : lt zero_float x ≡ true)
    (k : to_bits binary64 x < 2047 * 2 ^ 52) (p : Parted (to_bits binary64 x) m half)
    (q : WholeRoot (m * 2 ^ 54) r) where
  abbrev b : ℕ
  b = to_bits binary64 x

  abbrev n : ℕ
  n = digits binary64 (b / 2 ^ 52) (b % 2 ^ 52) * 2 ^ (b / 2 ^ 52 - 1)

  -- the number under the root, four times, in units of 2 ^ (half - 26)
  under : m * 2 ^ 54 * 4 ^ (half - 26) ≡ 4 * (n * 2 ^ 1074)
  under =
      mul_assoc m (4 ^ 27) (4 ^ (half - 26))
      ∙ ap (λ (y : ℕ). m * y) (sym (pow-add 4 27 (half - 26)) ∙ ap (λ (y : ℕ). 4 ^ y) (omega (arith, p.far))
      ∙ pow-succ' 4 half)
      ∙ mul_left_comm m 4 (4 ^ half) ∙ ap (λ (y : ℕ). 4 * y) p.value

  found : (root_units binary64 n ≡ units binary64 false (suc r / 2) (half - 26))
      × (of_bits binary64 ((half - 26) * 2 ^ 52 + (r + 1) / 2) ≡ root_units binary64 n)
  found =
      let w = rooted binary64 n (m * 2 ^ 54) (half - 26) r under (omega (arith, p.least)) (omega (arith, p.most)) q
      (omega (arith, p.near)) in
      (w.0, ap (λ (y : ℕ). of_bits binary64 ((half - 26) * 2 ^ 52 + y / 2)) (add-one r) ∙ w.2)

  pub when_above : answer 0 (of_bits binary64 ((half - 26) * 2 ^ 52 + (r + 1) / 2)) ≡ root_answer x
  when_above =
      let v : HasValue x false n (2 ^ 1074) = subst (λ (y : Float). HasValue y false n (2 ^ 1074))
      (of_bits-to_bits binary64 x t) (unpack binary64 b k) in
      ap (answer 0) (found.1 ∙ sym (root_of_value binary64 x n (is_positive x h k) v)) ∙ accepted x (is_positive x h k)

  pub above_no_nan_bits : T (not (nan_bits binary64 ((half - 26) * 2 ^ 52 + (r + 1) / 2)))
  above_no_nan_bits =
      subst (λ (y : Bool). T (not y)) (sym (nan_bits_is binary64 ((half - 26) * 2 ^ 52 + (r + 1) / 2)))
      (subst (λ (y : Float). T (not (is_nan y))) (sym (found.1 ∙ found.0))
      (units_no_nan binary64 false (suc r / 2) (half - 26)))
