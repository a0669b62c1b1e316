-- Whole numbers by their binary digits, at every number of digits p: how many digits a number has beyond p (`drop_is`),
-- the pattern of q * 2 ^ k (`pack`), and where the patterns end (`under_end`, `past_end`). Assumes nothing.
use Rattle.std.specs.Prelude.{◌≡◌, ◌⊎◌, ◌+◌, ◌-◌, ◌*◌, ◌/◌, ◌^◌, ◌≤◌, ◌<◌}
use Rattle.lists.specs.Prelude.{sym, ap, ◌∙◌, subst, inl, inr, ℕ, suc, le_trans, le_of_eq, lt_of_lt_of_le}
use Rattle.lists.specs.Prelude.{lt_of_le_of_lt, lt_of_not-le, lt_irrefl, eq-or-lt_of_le, mul_assoc, mul_comm}
use Rattle.lists.specs.Prelude.{mul-le-mul_right, lt_of_mul-lt-mul_right, le_of_mul-le-mul_right, mul-div_cancel}
use Rattle.lists.specs.Prelude.{pow-succ', arith, pow-add, pow_pos, pow_mono, pow-lt, shl_lt, size}
use lib.Ieee.Digits.{size-lt, size-le}

-- ---- powers of two are in the order of their exponents
exponent_lt : (i p : ℕ) → 2 ^ i < 2 ^ p → i < p
exponent_lt i p h = lt_of_not-le (λ (g : p ≤ i). lt_irrefl (2 ^ i) (lt_of_lt_of_le h (pow_mono g)))

pub exponent_le : (i p : ℕ) → 2 ^ i ≤ 2 ^ p → i ≤ p
exponent_le i p h = omega (arith, lt_of_not-le (λ (g : suc p ≤ i). lt_irrefl (2 ^ p) (lt_of_lt_of_le (pow-lt g) h)))

pub twice : (p : ℕ) → 0 < p → 2 ^ p ≡ 2 * 2 ^ (p - 1)
twice p P = ap (λ (x : ℕ). 2 ^ x) (sym (omega arith)) ∙ pow-succ' 2 (p - 1)

-- ---- how many digits a number has, and how many of them are beyond p
pub size_gt : (n j : ℕ) → 2 ^ j ≤ n → j < size n
size_gt n j h = lt_of_not-le (λ (few : size n ≤ j). let below = size-lt n in let most = pow_mono few in omega arith)

pub drop_is : (p w k : ℕ) → 0 < p → w < 2 ^ (p + k) → (k ≡ 0) ⊎ (2 ^ (p - 1 + k) ≤ w) → size w - p ≡ k
drop_is p w k P h (inl z) = omega (arith, size-le w (p + k) h)
drop_is p w k P h (inr g) = omega (arith, size-le w (p + k) h, size_gt w (p - 1 + k) g)

-- ---- the pattern of q * 2 ^ k, without its sign: q's leading digit adds one to the field k, and a q of 2 ^ p adds two
pub pack : (p q k : ℕ) → 0 < p → q ≤ 2 ^ p → (k ≡ 0) ⊎ (2 ^ (p - 1) ≤ q)
    → (size (q * 2 ^ k) - p) * 2 ^ (p - 1) + q * 2 ^ k / 2 ^ (size (q * 2 ^ k) - p) ≡ k * 2 ^ (p - 1) + q
pack p q k P h g = go (eq-or-lt_of_le h)
  where
    lead : (k ≡ 0) ⊎ (2 ^ (p - 1) ≤ q) → (k ≡ 0) ⊎ (2 ^ (p - 1 + k) ≤ q * 2 ^ k)
    lead (inl z) = inl z
    lead (inr l) = inr (le_trans (le_of_eq (pow-add 2 (p - 1) k)) (mul-le-mul_right (2 ^ k) l))

    go : (q ≡ 2 ^ p) ⊎ (q < 2 ^ p) → (size (q * 2 ^ k) - p) * 2 ^ (p - 1) + q * 2 ^ k / 2 ^ (size (q * 2 ^ k) - p)
        ≡ k * 2 ^ (p - 1) + q
    go (inr l) =
        ap (λ (z : ℕ). z * 2 ^ (p - 1) + q * 2 ^ k / 2 ^ z) (drop_is p (q * 2 ^ k) k P (shl_lt p k l) (lead g))
        ∙ ap (λ (z : ℕ). k * 2 ^ (p - 1) + z) (mul-div_cancel q (pow_pos k))
    go (inl e) =
        let H = 2 ^ (p - 1) in
        let n : q * 2 ^ k ≡ H * 2 ^ suc k = ap (λ (x : ℕ). x * 2 ^ k) (e ∙ twice p P ∙ mul_comm 2 H)
        ∙ mul_assoc H 2 (2 ^ k) ∙ ap (λ (x : ℕ). H * x) (sym (pow-succ' 2 k)) in
        let n2 : H * 2 ^ suc k ≡ 2 ^ (p - 1 + suc k) = sym (pow-add 2 (p - 1) (suc k)) in
        let d : size (q * 2 ^ k) - p ≡ suc k = drop_is p (q * 2 ^ k) (suc k) P
        (subst (λ (x : ℕ). x < 2 ^ (p + suc k)) (sym (n ∙ n2)) (pow-lt (less p k P))) (inr (le_of_eq (sym (n ∙ n2)))) in
        ap (λ (z : ℕ). z * H + q * 2 ^ k / 2 ^ z) d
        ∙ ap (λ (z : ℕ). suc k * H + z / 2 ^ suc k) n
        ∙ ap (λ (z : ℕ). suc k * H + z) (mul-div_cancel H (pow_pos (suc k)))
        ∙ carry H k q (e ∙ twice p P)
      where
        less : (p k : ℕ) → 0 < p → p - 1 + suc k < p + suc k
        less p k P = omega arith

        carry : (h k q : ℕ) → q ≡ 2 * h → suc k * h + h ≡ k * h + q
        carry h k q e = omega arith

-- ---- where the numbers end: the pattern reaches (E + 1) * H as the number reaches 2 ^ E * H, H being the weight of
-- the leading digit
pub under_end : (H q k E : ℕ) → 0 < E → q ≤ 2 * H → (k ≡ 0) ⊎ (H ≤ q) → q * 2 ^ k < 2 ^ E * H → k * H + q ≤ (E + 1) * H
under_end H q k E Z h g l = omega (arith, mul-le-mul_right H (below g))
  where
    below : (k ≡ 0) ⊎ (H ≤ q) → k < E
    below (inl z) = subst (λ (x : ℕ). x < E) (sym z) Z
    below (inr b) = exponent_lt k E
        (lt_of_mul-lt-mul_right H
        (lt_of_le_of_lt (le_trans (le_of_eq (mul_comm (2 ^ k) H)) (mul-le-mul_right (2 ^ k) b)) l))

pub past_end : (H q k E : ℕ) → 0 < H → 0 < E → q ≤ 2 * H → (k ≡ 0) ⊎ (H ≤ q) → 2 ^ E * H ≤ q * 2 ^ k
    → (E + 1) * H ≤ k * H + q
past_end H q k E HP Z h g l = go (eq-or-lt_of_le reach_k) g
  where
    doubled : 2 * H * 2 ^ k ≡ 2 ^ suc k * H
    doubled = mul_assoc 2 H (2 ^ k) ∙ ap (λ (x : ℕ). 2 * x) (mul_comm H (2 ^ k)) ∙ sym (mul_assoc 2 (2 ^ k) H)
        ∙ ap (λ (x : ℕ). x * H) (sym (pow-succ' 2 k))

    reach_k : E ≤ suc k
    reach_k = exponent_le E (suc k)
        (le_of_mul-le-mul_right (le_trans l (le_trans (mul-le-mul_right (2 ^ k) h) (le_of_eq doubled))) HP)

    go : (E ≡ suc k) ⊎ (E < suc k) → (k ≡ 0) ⊎ (H ≤ q) → (E + 1) * H ≤ k * H + q
    go (inl e) g =
        let b : 2 * H ≤ q = le_of_mul-le-mul_right (le_trans (le_of_eq (doubled ∙ ap (λ (x : ℕ). 2 ^ x * H) (sym e))) l)
        (pow_pos k) in
        omega (arith, b, ap (λ (x : ℕ). x * H) e)
    go (inr a) (inl z) = absurd (omega arith)
    go (inr a) (inr b) = omega (arith, b, mul-le-mul_right H a)
