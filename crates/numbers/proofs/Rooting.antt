-- What a program computes against `root_of`, in every format: k, the number M under the root in units of 2 ^ k, four
-- times, and r, its whole root. Then the root is (r + 1) / 2 times 2 ^ k units, and its pattern k * hid + (r + 1) / 2
-- (`rooted`). Assumes nothing.
use Rattle.std.specs.Prelude.{◌≡◌, ◌+◌, ◌-◌, ◌*◌, ◌/◌, ◌%◌, ◌^◌, ◌≤◌, ◌<◌}
use Rattle.lists.specs.Prelude.{refl, sym, ap, ◌∙◌, subst, inr, ℕ, zero, suc, mod-lt, zero-lt-suc, mul-one, mul_assoc}
use Rattle.lists.specs.Prelude.{mul-le-mul_left, le_trans, le_of_eq, le_of_suc-le-suc, le-suc, lt_of_lt_of_le}
use Rattle.lists.specs.Prelude.{lt_of_le_of_lt, lt_of_not-le, lt_irrefl, le_of_mul-le-mul_left, lt_of_mul-lt-mul_left}
use Rattle.lists.specs.Prelude.{mul-le-mul, mul-div_cancel, mul-le-mul_right, mul-lt-mul_of_pos_right, pow-succ'}
use Rattle.lists.specs.Prelude.{zero-add, min-eq_left, arith, true, false, T, lit<, pow_pos, pow_mono, pow-add, pow-lt}
use Rattle.lists.specs.Prelude.{Float, nan, inf, fin, Format, prec, emax, low, down, size, units, hid, of_bits}
use lib.Ieee.Digits.{size-le}
use lib.Ieee.Fits.{two, down_pos}
use lib.Ieee.Exact.{HasValue}
use lib.Ieee.Scale.{overflow}
use lib.Ieee.Positive.{positive}
use Rattle.formats.proofs.Digits.{size_gt}
use Rattle.formats.proofs.Patterns.{twice_hid, under_inf, of_bits_units}
use Rattle.formats.proofs.Normal.{Scaled}
use Rattle.numbers.specs.Computed.{WholeRoot, whole_root, drops, keeps, root_units, root_of}
use Rattle.numbers.proofs.Squares.{whole_root_law, whole_root_unique, four_square, four_pow, four_pos}

-- ---- by the units of x

pub root_of_value : (f : Format) (x : Float) (n : ℕ) → T (positive x) → HasValue x false n (2 ^ low f)
    → root_of f x ≡ root_units f n
unfolding root_of
root_of_value f nan n p h = absurd p
root_of_value f (inf s) n p h = absurd p
root_of_value f (fin true m e) n p h = absurd p
root_of_value f (fin false zero e) n p h = absurd p
root_of_value f (fin false (suc m) e) n p h =
    ap (root_units f) (ap (λ (x : ℕ). x / down e) h.1 ∙ mul-div_cancel n (down_pos e))

-- ---- a number with all its digits, by an even exponent: its digits are then one more at most
pub scaled_half : (f : Format) (n l m e : ℕ) → Scaled f n l m e → (m * 2 ^ (e % 2) * 4 ^ (e / 2) ≡ n * 2 ^ l)
    × (hid f ≤ m * 2 ^ (e % 2)) × (m * 2 ^ (e % 2) < 4 * hid f)
scaled_half f n l m e s =
    let r = e % 2 in
    let d : r + (e / 2 + e / 2) ≡ e = omega arith in
    let grown : m ≤ m * 2 ^ r = le_trans (le_of_eq (sym (mul-one m))) (mul-le-mul_left m (pow_pos r)) in
    let short : m * 2 ^ r ≤ m * 2 = mul-le-mul_left m (pow_mono (le_of_suc-le-suc (mod-lt e (zero-lt-suc 1)))) in (
      mul_assoc m (2 ^ r) (4 ^ (e / 2)) ∙ ap (λ (x : ℕ). m * (2 ^ r * x)) (four_pow (e / 2))
          ∙ ap (λ (x : ℕ). m * x) (sym (pow-add 2 r (e / 2 + e / 2)) ∙ ap (λ (x : ℕ). 2 ^ x) d) ∙ s.value,
      le_trans s.least grown,
      lt_of_le_of_lt short (omega (arith, s.most)),
    )

-- ---- how many digits are dropped

half_size : (a i : ℕ) → 4 ^ i ≤ a → a < 4 ^ suc i → suc (size a) / 2 ≡ suc i
half_size a i lo hi =
    omega (
      arith,
      size_gt a (i + i) (rw (← four_pow i) lo),
      size-le a (suc i + suc i) (rw (← four_pow (suc i)) hi),
    )

-- the number under the root in units of 2 ^ k, four times: it has 2 * p + 1 or 2 * p + 2 digits
drops_is : (p a M k : ℕ) → 2 ≤ p → M * 4 ^ k ≡ 4 * a → 4 ^ p ≤ M → M < 4 ^ suc p → drops p a ≡ k
drops_is p a M k P e lo hi =
    ap (λ (x : ℕ). x - p)
    (half_size a (p - 1 + k)
    (le_of_mul-le-mul_left
    (subst (λ (x : ℕ). x ≤ 4 * a) low_is
    (subst (λ (x : ℕ). 4 ^ p * 4 ^ k ≤ x) e (mul-le-mul_right (4 ^ k) lo))) (lit< tt))
    (lt_of_mul-lt-mul_left 4 (subst (λ (x : ℕ). 4 * a < x) high_is
    (subst (λ (x : ℕ). x < 4 ^ suc p * 4 ^ k) e (mul-lt-mul_of_pos_right hi (four_pos k))))))
    ∙ (omega arith)
  where
    low_is : 4 ^ p * 4 ^ k ≡ 4 * 4 ^ (p - 1 + k)
    low_is = sym (pow-add 4 p k) ∙ ap (λ (x : ℕ). 4 ^ x) (omega arith) ∙ pow-succ' 4 (p - 1 + k)

    high_is : 4 ^ suc p * 4 ^ k ≡ 4 * 4 ^ suc (p - 1 + k)
    high_is = sym (pow-add 4 (suc p) k) ∙ ap (λ (x : ℕ). 4 ^ x) (omega (arith, le_trans P (le-suc p)))
        ∙ pow-succ' 4 (suc p - 1 + k) ∙ ap (λ (x : ℕ). 4 * 4 ^ x) (again p k P)
      where
        again : (p k : ℕ) → 2 ≤ p → suc p - 1 + k ≡ suc (p - 1 + k)
        again p k P = omega arith

-- ---- the root of such a number has p + 1 digits

pub root_digits : (p M r : ℕ) → 4 ^ p ≤ M → M < 4 ^ suc p → WholeRoot M r → (2 ^ p ≤ r) × (r < 2 ^ suc p)
root_digits p M r lo hi h = (
  le_of_suc-le-suc
      (lt_of_not-le (λ (g : suc r ≤ 2 ^ p). lt_irrefl M
      (lt_of_lt_of_le h.1 (le_trans (mul-le-mul g g) (le_trans (le_of_eq (sym (four_square p))) lo))))),
  lt_of_not-le (λ (g : 2 ^ suc p ≤ r). lt_irrefl M
      (lt_of_lt_of_le hi (le_trans (le_of_eq (four_square (suc p))) (le_trans (mul-le-mul g g) h.0)))),
)

pub half_digits : (f : Format) (r : ℕ) → (2 ^ prec f ≤ r) × (r < 2 ^ suc (prec f))
    → (hid f ≤ suc r / 2) × (suc r / 2 ≤ 2 * hid f)
half_digits f r b = omega (arith, twice_hid f, pow-succ' 2 (prec f), b.0, b.1)

-- ---- what a program computes: k, the number M under the root, and r, its whole root

pub rooted : (f : Format) (n M k r : ℕ) → M * 4 ^ k ≡ 4 * (n * 2 ^ low f) → 4 ^ prec f ≤ M → M < 4 ^ suc (prec f)
    → WholeRoot M r → prec f + k < low f + suc (emax f)
    → (root_units f n ≡ units f false (suc r / 2) k) × (suc r / 2 * 2 ^ k < overflow f)
    × (of_bits f (k * hid f + suc r / 2) ≡ root_units f n)
unfolding root_units
rooted f n M k r e lo hi h o =
    let a = n * 2 ^ low f in
    let q = suc r / 2 in
    let ke : drops (prec f) a ≡ k = drops_is (prec f) a M k (two f) e lo hi in
    let me : 4 * a / 4 ^ k ≡ M = ap (λ (x : ℕ). x / 4 ^ k) (sym e) ∙ mul-div_cancel M (four_pos k) in
    let is : root_units f n ≡ units f false q k =
    ap (λ (x : ℕ). units f false (keeps a x) x) ke ∙ ap (λ (x : ℕ). units f false (suc (whole_root x) / 2) k) me
    ∙ ap (λ (x : ℕ). units f false (suc x / 2) k) (whole_root_unique M (whole_root M) r (whole_root_law M) h) in
    let d = half_digits f r (root_digits (prec f) M r lo hi h) in
    let fit : q * 2 ^ k < overflow f =
    lt_of_le_of_lt (mul-le-mul_right (2 ^ k) (subst (λ (x : ℕ). q ≤ x) (sym (twice_hid f)) d.1))
    (subst (λ (x : ℕ). x < overflow f) (pow-add 2 (prec f) k) (pow-lt o)) in
    let most : q ≤ 2 ^ prec f = subst (λ (x : ℕ). q ≤ x) (sym (twice_hid f)) d.1 in
    let read : of_bits f (k * hid f + q) ≡ units f false q k =
    ap (of_bits f) (sym (zero-add (k * hid f + q) ∙ refl)
    ∙ ap (λ (x : ℕ). 0 + x) (sym (min-eq_left (under_inf f false q k most (inr d.0) fit))))
    ∙ of_bits_units f false q k most (inr d.0) in
    (is, fit, read ∙ sym is)
