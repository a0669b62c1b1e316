-- a / b to the nearest whole number, a tie to the even one (`closest` of the kit): by its three cases, its bounds, and
-- what makes it the nearest: no multiple of b is nearer to a (`rounded_best`), and if another is as near the number is
-- even (`rounded_even`). Assumes nothing.
use Rattle.std.specs.Prelude.{◌≡◌, ◌⊎◌, ◌+◌, ◌*◌, ◌/◌, ◌%◌, ◌≤◌, ◌<◌}
use Rattle.lists.specs.Prelude.{refl, sym, ap, ◌∙◌, subst, inl, inr, ℕ, suc, compare, Ordering, ordering_lt}
use Rattle.lists.specs.Prelude.{ordering_eq, ordering_gt, le_trans, le_of_eq, eq-or-lt_of_le, mul-le-mul_right}
use Rattle.lists.specs.Prelude.{le-div_iff_mul-le, div-lt_iff_lt-mul, mod-lt, mod-eq_of_lt, div-eq_of_lt, div-add-mod'}
use Rattle.lists.specs.Prelude.{suc-mul, ℕ_discrete, arith, not, T, is_le, compare_is_eq, leb→le, nleb→lt, eqb→eq}
use Rattle.lists.specs.Prelude.{nearest}
use lib.Arith.{lt_of_le-ne}
use lib.Ieee.Fits.{eq→eqb, nearest-le}
use lib.Ieee.Nearest.{closest, nearest-ge}
use Rattle.lists.proofs.Tests.{order_cases}
use Rattle.fractions.specs.Fraction.{gap}

-- ---- by what `compare` says of x and y
by_compare : (P : Ordering → Type 0) (x y : ℕ) → (x < y → P ordering_lt) → (x ≡ y → P ordering_eq)
    → (y < x → P ordering_gt) → P (compare x y)
by_compare P x y f g h = go (compare x y) (leb→le x y) (nleb→lt x y) (eqb→eq x y) eq→eqb
  where
    go : (o : Ordering) → (T (is_le o) → x ≤ y) → (T (not (is_le o)) → y < x) → (T (compare_is_eq o) → x ≡ y)
        → (x ≡ y → T (compare_is_eq o)) → P o
    go ordering_lt l m e n = f (lt_of_le-ne (l tt) n)
    go ordering_eq l m e n = g (e tt)
    go ordering_gt l m e n = h (m tt)

-- ---- by how twice the remainder compares with b
module _ (a b : ℕ) where
  by_remainder : (P : ℕ → Type 0) → (a % b * 2 < b → P (a / b)) → (a % b * 2 ≡ b → P (a / b + a / b % 2))
      → (b < a % b * 2 → P (suc (a / b))) → P (closest a b)
  by_remainder P = by_compare (λ o. P (nearest (a / b) o)) (a % b * 2) b

  pub closest_lt : a % b * 2 < b → closest a b ≡ a / b
  closest_lt h = by_remainder (λ c. c ≡ a / b) (λ l. refl) (λ e. absurd (omega arith)) (λ g. absurd (omega arith))

  pub closest_tie : a % b * 2 ≡ b → closest a b ≡ a / b + a / b % 2
  closest_tie h = by_remainder (λ c. c ≡ a / b + a / b % 2) (λ l. absurd (omega arith)) (λ e. refl)
      (λ g. absurd (omega arith))

  pub closest_gt : b < a % b * 2 → closest a b ≡ suc (a / b)
  closest_gt h = by_remainder (λ c. c ≡ suc (a / b)) (λ l. absurd (omega arith)) (λ e. absurd (omega arith)) (λ g. refl)

-- ---- its bounds
pub closest_le : (a b c : ℕ) → 0 < b → a < c * b → closest a b ≤ c
closest_le a b c B h = le_trans (nearest-le (a / b) (compare (a % b * 2) b)) ((div-lt_iff_lt-mul B).1 h)

pub closest_ge : (a b c : ℕ) → 0 < b → c * b ≤ a → c ≤ closest a b
closest_ge a b c B h = le_trans ((le-div_iff_mul-le B).1 h) (nearest-ge (a / b) (compare (a % b * 2) b))

pub closest_zero : (a b : ℕ) → a * 2 < b → closest a b ≡ 0
closest_zero a b h =
    closest_lt a b (subst (λ (x : ℕ). x * 2 < b) (sym (mod-eq_of_lt (omega arith))) h) ∙ div-eq_of_lt (omega arith)

-- ---- how far a is from w multiples of b
abbrev off : ℕ → ℕ → ℕ → ℕ
off a b w = gap a (w * b)

-- the number, its quotient being q and its remainder r: q or the next, and twice what it is off by is b at most, b only
-- where it is even
pub record Rounded (a b c : ℕ) : Type 0 where
  pub half : off a b c * 2 ≤ b
  pub even : off a b c * 2 ≡ b → c % 2 ≡ 0

at_q : (a b q r : ℕ) → q * b + r ≡ a → r * 2 < b → Rounded a b q
at_q a b q r e h = record { half = omega arith; even = λ t. absurd (omega arith) }

at_next : (a b q r : ℕ) → q * b + r ≡ a → b < r * 2 → r < b → Rounded a b (suc q)
at_next a b q r e h l = record { half = omega (arith, suc-mul q b); even = λ t. absurd (omega arith) }

at_tie : (a b q r : ℕ) → q * b + r ≡ a → r * 2 ≡ b → Rounded a b (q + q % 2)
at_tie a b q r e h = record { half = go (eq-or-lt_of_le (omega arith)); even = λ t. omega arith }
  where
    go : (q % 2 ≡ 1) ⊎ (q % 2 < 1) → off a b (q + q % 2) * 2 ≤ b
    go (inl s) = rw s (omega (arith, suc-mul q b))
    go (inr s) = let n : q % 2 ≡ 0 = omega arith in rw n (omega arith)

pub closest_rounded : (a b : ℕ) → 0 < b → Rounded a b (closest a b)
closest_rounded a b B =
    let e = div-add-mod' a b in
    by_remainder a b (Rounded a b) (at_q a b (a / b) (a % b) e) (at_tie a b (a / b) (a % b) e)
    (λ g. at_next a b (a / b) (a % b) e g (mod-lt a B))

-- ---- such a number is nearest: two of them are b apart, so another is off by half of b at least
module _ (a b c w : ℕ) (r : Rounded a b c) where
  far : (w ≡ c → ⊥) → b ≤ off a b c + off a b w
  far n = order_cases w c (λ l. (omega (arith, more w c l))) (λ e. absurd (n e)) (λ g. (omega (arith, more c w g)))
    where
      more : (x y : ℕ) → x < y → x * b + b ≤ y * b
      more x y h = le_trans (le_of_eq (sym (suc-mul x b))) (mul-le-mul_right b h)

  pub rounded_best : off a b c ≤ off a b w
  rounded_best = go (ℕ_discrete w c)
    where
      go : Dec (w ≡ c) → off a b c ≤ off a b w
      go (yes e) = le_of_eq (ap (off a b) (sym e))
      go (no n) = omega (arith, r.half, far n)

  pub rounded_even : off a b c ≡ off a b w → (w ≡ c → ⊥) → c % 2 ≡ 0
  rounded_even e n = r.even (omega (arith, r.half, far n))
