-- The whole root of a number: `whole_root n` is the largest r whose square is at most n (`whole_root_law`), and the
-- only
-- such r (`whole_root_unique`). Assumes nothing.
use Rattle.std.specs.Prelude.{◌≡◌, ◌+◌, ◌*◌, ◌/◌, ◌^◌, ◌≤◌, ◌<◌}
use Rattle.lists.specs.Prelude.{refl, sym, ap, ◌∙◌, ℕ, zero, suc, zero-le, le_trans, le_of_eq, le_of_suc-le-suc}
use Rattle.lists.specs.Prelude.{le_antisymm, lt_of_lt_of_le, lt_of_not-le, lt_irrefl, zero-lt-suc, mul-mul-mul_comm}
use Rattle.lists.specs.Prelude.{mul-le-mul, suc-mul, mul-suc, pow-suc, one-le-pow, div-lt_iff_lt-mul, arith, pow_pos}
use Rattle.lists.specs.Prelude.{pow-add, size}
use lib.Ieee.Digits.{size-lt}
use Rattle.lists.specs.OneAnswer.{OneAnswer}
use Rattle.lists.proofs.Tests.{by_at_most}
use Rattle.numbers.specs.Computed.{WholeRoot, digit, root_in, whole_root}

pub square_suc : (r : ℕ) → suc r * suc r ≡ r * r + 2 * r + 1
square_suc r = omega (arith, suc-mul r (suc r), mul-suc r r)

pub square_lt : (x y : ℕ) → x < y → x * x < y * y
square_lt x y h = lt_of_lt_of_le (omega (arith, square_suc x)) (mul-le-mul h h)

square_twice : (r : ℕ) → 2 * r * (2 * r) ≡ 4 * (r * r)
square_twice r = mul-mul-mul_comm 2 r 2 r

digit_law : (n r : ℕ) → WholeRoot (n / 4) r → WholeRoot n (digit n (2 * r))
digit_law n r h =
    by_at_most (WholeRoot n) (suc (2 * r) * suc (2 * r)) n
    (λ l. (l, omega (arith, h, square_suc r, square_twice r, square_suc (2 * r), square_suc (suc (2 * r)))))
    (λ l. (omega (arith, h, square_twice r), l))

root_in_law : (d n : ℕ) → n < 4 ^ d → WholeRoot n (root_in d n)
unfolding root_in
root_in_law zero n h = (zero-le, h)
root_in_law (suc d) n h = digit_law n (root_in d (n / 4))
    (root_in_law d (n / 4) ((div-lt_iff_lt-mul (zero-lt-suc 3)).1 (rw (← pow-suc 4 d) h)))

pub four_square : (d : ℕ) → 4 ^ d ≡ 2 ^ d * 2 ^ d
four_square zero = refl
four_square (suc d) = pow-suc 4 d ∙ ap (λ (x : ℕ). x * 4) (four_square d) ∙ sym (mul-mul-mul_comm (2 ^ d) 2 (2 ^ d) 2)
    ∙ ap (λ (x : ℕ). x * x) (sym (pow-suc 2 d))

pub four_pow : (i : ℕ) → 4 ^ i ≡ 2 ^ (i + i)
four_pow i = four_square i ∙ sym (pow-add 2 i i)

pub four_pos : (i : ℕ) → 0 < 4 ^ i
four_pos i = one-le-pow i 4 (zero-lt-suc 3)

pub whole_root_law : (n : ℕ) → WholeRoot n (whole_root n)
unfolding whole_root
whole_root_law n = root_in_law (size n) n
    (lt_of_lt_of_le (size-lt n)
    (le_trans (grow (2 ^ size n) (pow_pos (size n))) (le_of_eq (sym (four_square (size n))))))
  where
    grow : (p : ℕ) → 0 < p → p ≤ p * p
    grow zero h = elim h [ ]
    grow (suc p) h = omega (arith, suc-mul p (suc p))

root_le : (a b r s : ℕ) → a ≤ b → WholeRoot a r → WholeRoot b s → r ≤ s
root_le a b r s l h k =
    le_of_suc-le-suc
    (lt_of_not-le (λ (g : suc s ≤ r). lt_irrefl b
    (lt_of_lt_of_le k.1 (le_trans (mul-le-mul g g) (le_trans h.0 l)))))

pub whole_root_unique : (n : ℕ) → OneAnswer (WholeRoot n)
whole_root_unique n r s g h = le_antisymm (root_le n n r s (le_of_eq refl) g h) (root_le n n s r (le_of_eq refl) h g)
