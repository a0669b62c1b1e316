-- The laws of `Within`, and of a magnitude that is at most so much. The words of specs/ and the vocabulary of
-- Close.antt say the same (`close_apart` and `apart_close`, `size_at_most` and `at_most_size`, `least_at_most` and
-- `at_most_least`), and so a number `Within` another may be renamed and chained. Assumes nothing.
use Rattle.std.specs.Prelude.{◌≡◌, ◌∷◌, ◌+◌, ◌*◌, ◌^◌, ◌≤◌, ◌<◌}
use Rattle.lists.specs.Prelude.{sym, ap, Bool, List, [], ℕ, suc, zero-le, le_trans, le_of_eq, add_comm, pow-succ'}
use Rattle.lists.specs.Prelude.{one-mul, mul-le-mul_right, arith, T, leb, ltb, leb→le, ltb→lt, pow_pos, pow_mono}
use Rattle.lists.proofs.Tests.{all, each_holds}
use Rattle.fractions.specs.Fraction.{Fraction, fraction, magnitude, whole, ◌⊖◌, Same, AtMost, gap, apart, Within}
use Rattle.fractions.proofs.Order.{same_refl, gap_times}
use Rattle.fractions.proofs.Close.{Close, Size, Least, gap_above, gap_below, gap_most, close_difference}
use Rattle.fractions.proofs.Close.{difference_close, close_wider, close_same, close_unit, close_trans}
use Rattle.fractions.proofs.Close.{same_close}

-- ---- the words of specs/, counted in units of 1 / W

-- |x| ≤ M / W
module _ {W M : ℕ} {x : Fraction} where
  pub size_gap : Size W x M → gap x.plus x.minus * W ≤ M * x.over
  size_gap h = rw (← gap_times x.plus x.minus W)
      (gap_most (x.plus * W) (x.minus * W) (M * x.over) h.above h.below)

  pub gap_size : gap x.plus x.minus * W ≤ M * x.over → Size W x M
  gap_size h =
      let g : gap (x.plus * W) (x.minus * W) ≤ M * x.over = rw (gap_times x.plus x.minus W) h in
      record {
        above = gap_above (x.plus * W) (x.minus * W) (M * x.over) g;
        below = gap_below (x.plus * W) (x.minus * W) (M * x.over) g;
      }

  pub size_at_most : Size W x M → AtMost (magnitude x) (fraction M 0 W)
  size_at_most h = omega (arith, size_gap h)

  pub at_most_size : AtMost (magnitude x) (fraction M 0 W) → Size W x M
  at_most_size h = gap_size (omega (arith, h))

  -- M / W ≤ x
  pub at_most_least : AtMost (fraction M 0 W) x → Least W x M
  at_most_least h = record { least = omega (arith, h) }

  pub least_at_most : Least W x M → AtMost (fraction M 0 W) x
  least_at_most h = omega (arith, h.least)

-- |x - y| ≤ E / W
apart_is : (x y : Fraction) → apart x y ≡ gap (x ⊖ y).plus (x ⊖ y).minus
apart_is x y = ap (gap (x ⊖ y).plus) (add_comm (y.plus * x.over) (x.minus * y.over))

module _ {W E : ℕ} {x y : Fraction} where
  close_apart : Close W x y E → apart x y * W ≤ E * (x.over * y.over)
  close_apart h = rw (apart_is x y) (size_gap (close_difference h))

  pub apart_close : 0 < x.over → 0 < y.over → apart x y * W ≤ E * (x.over * y.over) → Close W x y E
  apart_close X Y h =
      difference_close X Y (gap_size (rw (← apart_is x y) h))

module _ {k : ℕ} {x y : Fraction} where
  pub within_close : Within k x y → Close (2 ^ k) x y 1
  within_close h =
      apart_close h.first h.second (le_trans h.near (le_of_eq (sym (one-mul (x.over * y.over)))))

  pub close_within : Close (2 ^ k) x y 1 → Within k x y
  close_within h = record {
    first = h.first;
    second = h.second;
    near = le_trans (close_apart h) (le_of_eq (one-mul (x.over * y.over)));
  }

  -- E / W is at least, or at most, 2 ^ -k
  pub within_counted : {W : ℕ} (E : ℕ) → W ≤ E * 2 ^ k → Within k x y → Close W x y E
  within_counted {W} E h w = close_unit (pow_pos k) (le_trans (le_of_eq (one-mul W)) h) (within_close w)

  pub counted_within : {W E : ℕ} → 0 < W → E * 2 ^ k ≤ W → Close W x y E → Within k x y
  counted_within {W} w h c = close_within (close_unit w (le_trans h (le_of_eq (sym (one-mul W)))) c)

-- of two closed fractions it is decided by computing
abbrev within_tests : ℕ → Fraction → Fraction → List Bool
within_tests k x y = ltb 0 x.over ∷ ltb 0 y.over ∷ leb (apart x y * 2 ^ k) (x.over * y.over) ∷ []

abbrev pub is_within : ℕ → Fraction → Fraction → Bool
is_within k x y = all (within_tests k x y)

pub within_computed : (k : ℕ) (x y : Fraction) → T (is_within k x y) → Within k x y
within_computed k x y t =
    let (first, (second, (near, end))) = each_holds (within_tests k x y) t in
    record { first = ltb→lt 0 x.over first; second = ltb→lt 0 y.over second; near = leb→le _ _ near }

-- a whole number
pub whole_size : (W n : ℕ) {N : ℕ} → n ≤ N → Size W (whole n) (N * W)
whole_size W n h = record { above = omega (arith, mul-le-mul_right W h); below = omega arith }

pub whole_least : (W n : ℕ) {N : ℕ} → N ≤ n → Least W (whole n) (N * W)
whole_least W n h = record { least = omega (arith, mul-le-mul_right W h) }

-- ---- the laws
twice : (k : ℕ) → (1 + 1) * 2 ^ k ≤ 2 ^ suc k
twice k = le_of_eq (sym (pow-succ' 2 k))

pub within_refl : (k : ℕ) (x : Fraction) → 0 < x.over → Within k x x
within_refl k x X = close_within (close_wider (same_close (2 ^ k) x x X X (same_refl x)) (zero-le))

module _ {k : ℕ} {x y : Fraction} where
  -- other names of the same two numbers
  pub within_same : (x' y' : Fraction) → 0 < x'.over → 0 < y'.over → Same x' x → Same y y' → Within k x y
      → Within k x' y'
  within_same x' y' X Y e d h = close_within (close_same x' y' X Y e d (within_close h))

  pub within_equal : {y' : Fraction} → y ≡ y' → Within k x y → Within k x y'
  within_equal e h = rw (← e) h

  pub within_weaken : {j : ℕ} → j ≤ k → Within k x y → Within j x y
  within_weaken {j} l h =
      counted_within (pow_pos k) (le_trans (le_of_eq (one-mul (2 ^ j))) (pow_mono l)) (within_close h)

-- two steps of half the size
pub within_trans : {k : ℕ} {x y z : Fraction} → Within (suc k) x y → Within (suc k) y z → Within k x z
within_trans {k} h i = counted_within (pow_pos (suc k)) (twice k) (close_trans (within_close h) (within_close i))
