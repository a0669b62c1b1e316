-- A signed number and its bits, over the width, as code goes from one to the other: below zero through -1 - z, which is
-- no less than zero. Assumes nothing.
use Rattle.std.specs.Prelude.{◌≡◌, ◌-◌, ◌^◌, ◌≤◌, ◌<◌, ◌-ℤ◌}
use Rattle.lists.specs.Prelude.{refl, sym, ap, ◌∙◌, true, false, true≢false, ℕ, zero, suc, arith, le-ltb, ltb-true, ℤ}
use Rattle.lists.specs.Prelude.{pos, negsuc}
use lib.Signed.{mag, lt_z}
use mir.Syntax.{Width}
use mir.Val.{bits, hbits, SFits, to_z, of_z}
use mir.Facts.{to_z-of_z, to_z_pos}

-- -1 - m and -1 - (-1 - k)
pub minus_pos : (m : ℕ) → negsuc 0 -ℤ pos m ≡ negsuc m
minus_pos zero = refl
minus_pos (suc m) = ap negsuc (omega arith)

minus_neg : (k : ℕ) → negsuc 0 -ℤ negsuc k ≡ pos k
minus_neg k = rw (le-ltb (suc k) 1 (omega arith)) (ap pos (omega arith))

nothing_below : (n : ℕ) → lt_z (pos n) (pos 0) ≡ true → ⊥
nothing_below n h = let k = ltb-true n 0 h in omega arith

module _ (w : Width) where
  -- what stands in memory is read back
  pub back : (z : ℤ) → mag z < 2 ^ hbits w → to_z w (of_z w z) ≡ z
  back z h = to_z-of_z (record { sfits = h })

  -- z below zero: -1 - z is its magnitude less one, and the bits are what is left of all ones
  pub below_part : (z : ℤ) → SFits w z → lt_z (to_z w (of_z w z)) (pos 0) ≡ true
      → negsuc 0 -ℤ to_z w (of_z w z) ≡ pos (mag z)
  below_part (pos n) f h = absurd (nothing_below n (rw (to_z-of_z f) at h))
  below_part (negsuc k) f h = ap (λ (y : ℤ). negsuc 0 -ℤ y) (to_z-of_z f) ∙ minus_neg k

  pub below_whole : (z : ℤ) → SFits w z → lt_z (to_z w (of_z w z)) (pos 0) ≡ true
      → to_z w (of_z w (negsuc 0 -ℤ to_z w (of_z w z))) ≡ pos (mag z)
  below_whole z f h = ap (λ (y : ℤ). to_z w (of_z w y)) (below_part z f h) ∙ to_z_pos w f.sfits

  pub below_bits : (z : ℤ) → SFits w z → lt_z (to_z w (of_z w z)) (pos 0) ≡ true → 2 ^ bits w - 1 - mag z ≡ of_z w z
  below_bits (pos n) f h = absurd (nothing_below n (rw (to_z-of_z f) at h))
  below_bits (negsuc k) f h = omega arith

  -- any other z
  pub above_part : (z : ℤ) → SFits w z → lt_z (to_z w (of_z w z)) (pos 0) ≡ false → to_z w (of_z w z) ≡ pos (mag z)
  above_part (pos n) f h = to_z-of_z f
  above_part (negsuc k) f h = absurd (true≢false (rw (to_z-of_z f) at h))

  pub above_bits : (z : ℤ) → SFits w z → lt_z (to_z w (of_z w z)) (pos 0) ≡ false → mag z ≡ of_z w z
  above_bits (pos n) f h = refl
  above_bits (negsuc k) f h = absurd (true≢false (rw (to_z-of_z f) at h))

  -- and back, from bits whose first is set
  pub high_bits : (u : ℕ) → 2 ^ hbits w ≤ u → 2 ^ bits w - 1 - u < 2 ^ hbits w
      → negsuc 0 -ℤ to_z w (2 ^ bits w - 1 - u) ≡ to_z w u
  high_bits u h g =
      ap (λ (y : ℤ). negsuc 0 -ℤ y) (to_z_pos w g) ∙ minus_pos (2 ^ bits w - 1 - u)
      ∙ sym (rw (le-ltb u (2 ^ hbits w) h) (ap negsuc (omega arith)))
