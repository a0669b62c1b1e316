-- The steps of the program that computes a root: the invariant of the loop that takes two digits a turn (`Turn`), and
-- the parts of a pattern (`Aligned`). The digits of binary64 and of a word of 64 bits enter here. Assumes nothing.
use Rattle.std.specs.Prelude.{◌≡◌, ◌+◌, ◌-◌, ◌*◌, ◌/◌, ◌%◌, ◌^◌, ◌≤◌, ◌<◌}
use Rattle.lists.specs.Prelude.{sym, ap, ◌∙◌, subst, ℕ, suc, le_trans, lt_of_lt_of_le, lt_of_not-le, not-le_of_lt}
use Rattle.lists.specs.Prelude.{mod-lt, mul_assoc, mul_comm, arith, pow_pos, pow_mono, pow-add, lit≤, binary64}
use lib.Count.{count_leading_zeros, leading_top}
use Rattle.formats.proofs.Patterns.{digits}
use Rattle.formats.proofs.Normal.{Scaled, scaled_normal, scaled_low}
use Rattle.numbers.specs.Computed.{WholeRoot, Parted}
use Rattle.numbers.proofs.Squares.{square_suc}
use Rattle.numbers.proofs.Rooting.{scaled_half}

-- ---- the digits of a root, two of the number a turn

-- After i turns: `root` and `rest` hold the first 2 * i digits of m * 2 ^ 10, written with 64 digits and zeros after
-- them, and `left` the 64 digits that come next.
pub record Turn (m left root rest i : ℕ) : Type 0 where
  pub all : (root * root + rest) * 2 ^ 64 + left ≡ m * 2 ^ 10 * 4 ^ i
  pub word : left < 2 ^ 64
  pub small : rest ≤ 2 * root
  pub short : root < 2 ^ i
  pub turn : i ≤ 54

pub short_lt : (r i : ℕ) → r < 2 ^ i → i ≤ 54 → r < 2 ^ 54
short_lt r i h l = omega (arith, pow_mono l)

pub first_turn : (m : ℕ) → m < 2 ^ 54 → Turn m (m * 2 ^ 10 % 2 ^ 64) 0 0 0
first_turn m h =
    record { all = omega arith; word = omega arith; small = omega arith; short = omega arith; turn = omega arith }

-- one more turn multiplies what is held by 4
four_more : (c i : ℕ) → c * 4 ^ (i + 1) ≡ 4 * (c * 4 ^ i)
four_more c i = ap (λ (x : ℕ). c * x) (pow-add 4 i 1) ∙ sym (mul_assoc c (4 ^ i) 4) ∙ mul_comm (c * 4 ^ i) 4

-- the next digit is 0
pub no_digit : (m left root rest i : ℕ) → Turn m left root rest i → i < 54 → rest * 4 + left / 2 ^ 62 < root * 4 + 1
    → Turn m (left * 2 ^ 2 % 2 ^ 64) (root * 2) (rest * 4 + left / 2 ^ 62) (i + 1)
no_digit m left root rest i t l h = record {
  all = omega (arith, t, four_more (m * 2 ^ 10) i);
  word = omega arith;
  small = omega arith;
  short = omega (arith, t, pow-add 2 i 1);
  turn = omega arith;
}

-- the next digit is 1
pub one_digit : (m left root rest i : ℕ) → Turn m left root rest i → i < 54 → root * 4 + 1 ≤ rest * 4 + left / 2 ^ 62
    → Turn m (left * 2 ^ 2 % 2 ^ 64) (root * 2 + 1) (rest * 4 + left / 2 ^ 62 - (root * 4 + 1)) (i + 1)
one_digit m left root rest i t l h = record {
  all = omega (arith, t, four_more (m * 2 ^ 10) i);
  word = omega arith;
  small = omega (arith, t);
  short = omega (arith, t, pow-add 2 i 1);
  turn = omega arith;
}

pub last_turn : (m left root rest i : ℕ) → Turn m left root rest i → 54 ≤ i → WholeRoot (m * 2 ^ 54) root
last_turn m left root rest i t h =
    let at : i ≡ 54 = omega (arith, t) in
    let all : (root * root + rest) * 2 ^ 64 + left ≡ m * 2 ^ 10 * 4 ^ 54 = subst
    (λ (x : ℕ). (root * root + rest) * 2 ^ 64 + left ≡ m * 2 ^ 10 * 4 ^ x) at t.all in
    (omega (arith, t.word), omega (arith, t.word, t.small, square_suc root))

-- ---- the parts of a pattern

-- the number that a pattern stands for, in units
abbrev units : ℕ → ℕ
units b = digits binary64 (b / 2 ^ 52) (b % 2 ^ 52) * 2 ^ (b / 2 ^ 52 - 1)

-- before the exponent is halved: m * 2 ^ e, for an m of 53 digits
pub record Aligned (bits m e : ℕ) : Type 0 where
  pub scaled : Scaled binary64 (units bits) 1074 m e
  pub far : 1022 ≤ e
  pub near : e < 3121

-- a pattern with a leading digit
pub aligned_normal : (bits t : ℕ) → bits < 2047 * 2 ^ 52 → (bits / 2 ^ 52 ≡ 0 → ⊥) → t ≡ bits % 2 ^ 52
    → Aligned bits (t + 2 ^ 52) (bits / 2 ^ 52 + 1073)
aligned_normal bits t h n e = record {
  scaled = rw (← sum, ← more) (scaled_normal binary64 (bits / 2 ^ 52) (bits % 2 ^ 52) 1074 (omega arith)
      (mod-lt bits (pow_pos 52)));
  far = omega arith;
  near = omega arith;
}
  where
    sum : 2 ^ 52 + bits % 2 ^ 52 ≡ t + 2 ^ 52
    sum = omega arith

    more : bits / 2 ^ 52 - 1 + 1074 ≡ bits / 2 ^ 52 + 1073
    more = omega arith

-- a pattern without one: its digits are moved up until the highest is the 53rd
pub leading_bounds : (t : ℕ) → 0 < t → t < 2 ^ 52 → (j : ℕ) × (count_leading_zeros 64 t + suc j ≡ 64) × (2 ^ j ≤ t)
    × (t < 2 ^ suc j) × (j < 52)
leading_bounds t p h =
    let l = leading_top 64 t p (lt_of_lt_of_le h (lit≤ tt)) in
    (l.0, l.1, l.2, l.3, lt_of_not-le (λ (g : 52 ≤ l.0). not-le_of_lt h (le_trans (pow_mono g) l.2)))

pub aligned_low : (bits t z : ℕ) → 0 < bits → bits / 2 ^ 52 ≡ 0 → t ≡ bits % 2 ^ 52 → z ≡ count_leading_zeros 64 t
    → Aligned bits (t * 2 ^ (z - 11) % 2 ^ 64) (1085 - z)
aligned_low bits t z p n e ze =
    let b = leading_bounds t (omega arith) (omega arith) in
    at b.0 (ap (λ (x : ℕ). x + suc b.0) ze ∙ b.1) b.2 b.3 b.4
  where
    at : (j : ℕ) → z + suc j ≡ 64 → 2 ^ j ≤ t → t < 2 ^ suc j → j < 52
        → Aligned bits (t * 2 ^ (z - 11) % 2 ^ 64) (1085 - z)
    at j s lo hi l =
        let k = z - 11 in
        let c : Scaled binary64 (digits binary64 0 t * 2 ^ (0 - 1)) 1074 (t * 2 ^ k) (1085 - z) = scaled_low binary64 t
        j k (1085 - z) 1074 lo hi (omega arith) (omega arith) in
        let same : t * 2 ^ k % 2 ^ 64 ≡ t * 2 ^ k = omega (arith, c.most) in
        record { scaled = rw (same, n, ← e) c; far = omega arith; near = omega arith }

pub parted_of : (bits m e : ℕ) → Aligned bits m e → Parted bits (m * 2 ^ (e % 2) % 2 ^ 64) (e / 2)
parted_of bits m e s =
    let h = scaled_half binary64 (units bits) 1074 m e s.scaled in
    let same : m * 2 ^ (e % 2) % 2 ^ 64 ≡ m * 2 ^ (e % 2) = omega (arith, h.2) in
    record {
      value = ap (λ (x : ℕ). x * 4 ^ (e / 2)) same ∙ h.0;
      least = omega (arith, h.1);
      most = omega (arith, h.2);
      far = omega (arith, s.far);
      near = omega (arith, s.near);
    }
