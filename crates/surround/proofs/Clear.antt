-- On both layouts some speaker is 80 degrees away at most, whatever the azimuth: in front C, behind one of the rear
-- pair. So the sum of squares is 3 / 100 at least, the square of the cosine of 80 degrees being 0.0301. (The least sum
-- is larger: that of 5.1 at 180 degrees is 1 + cos 140, 0.2339.., and that of 7.1 3 / 2. Document 01 asks only that it
-- is never near 10 ^ -10.) Assumes nothing.
use Rattle.std.specs.Prelude.{◌≡◌, ◌<◌}
use Rattle.lists.specs.Prelude.{refl, sym, subst, true, ℕ, mul-pos, arith, lit<, lit≤}
use Rattle.fractions.specs.Fraction.{Fraction, fraction, whole, magnitude, square, ◌⊖◌, Less, AtMost}
use Rattle.fractions.proofs.Order.{at_most_trans, by_side}
use Rattle.fractions.proofs.Compare.{is_less_lem}
use Rattle.fractions.proofs.Sums.{square_in_sum}
use Rattle.series.specs.Sums.{cosine}
use Rattle.series.specs.Angles.{defined_cosine}
use Rattle.series.proofs.Laws.{defined_number, cosine_square_least}
use Rattle.lists.proofs.Tables.{length_tab, get_or_table}
use Rattle.channel.proofs.Counts.{by_surround}
use Rattle.channel.specs.Layouts.{channels_of, surround}
use Rattle.channel.specs.declared.Layout.{Layout}
use Rattle.channel.specs.declared.Layout.TheVariants.{Surround51, Surround71}
use Rattle.surround.specs.Formula.{raw_gain, raw_at, raw_formulas, sum_at}
use Rattle.surround.proofs.Ways.{straight}

abbrev least : Fraction
least = fraction 3 0 100

-- loud: the square is so much at least
abbrev Loud : Fraction → Type 0
Loud g = AtMost least (square g) × (0 < (square g).over)

-- a speaker at p - m that is 80 degrees away at most
module _ (a : Fraction) (p m : ℕ) (A : 0 < a.over) (H : AtMost (magnitude a) (whole 180)) where
  abbrev q : Fraction
  q = fraction p m 1

  abbrev apart : Fraction
  apart = magnitude (a ⊖ q)

  loud : AtMost (magnitude q) (whole 180) → AtMost apart (whole 80) → Loud (raw_gain a q)
  unfolding raw_gain
  loud K h =
      let D : 0 < apart.over = mul-pos {n = 1} A (lit< tt) in
      let N : 0 < (defined_cosine apart).over = defined_number cosine apart D in
      rw (straight a p m A H K (omega arith), is_less_lem apart (whole 90) (omega arith))
      (cosine_square_least apart D (omega arith) h, mul-pos N N)

-- the sum is no less than the square of a channel's gain
pub channel_in_sum : (l : Layout) (a : Fraction) (c : ℕ) → c < channels_of l
    → AtMost (square (raw_at l a c)) (sum_at l a)
channel_in_sum l a c h =
    let n = channels_of l in
    subst (λ (g : Fraction). AtMost (square g) (sum_at l a)) (get_or_table n (raw_at l a) c (whole 0) h)
    (square_in_sum (raw_formulas l a) c (whole 0) (omega (arith, length_tab 0 n (raw_at l a))))

module _ (a : Fraction) (A : 0 < a.over) (H : AtMost (magnitude a) (whole 180)) where
  sum_least : (l : Layout) (c : ℕ) → c < channels_of l → Loud (raw_at l a c) → AtMost least (sum_at l a)
  sum_least l c h k = at_most_trans least (square (raw_at l a c)) (sum_at l a) k.1 k.0 (channel_in_sum l a c h)

  -- ---- C serves both layouts as far as 80 degrees either way; behind that the rear pair has to
  module _ (l : Layout) (three : 2 < channels_of l) (C : raw_at l a 2 ≡ raw_gain a (whole 0)) where
    front : Less (fraction 0 80 1) a → Less a (whole 80) → AtMost least (sum_at l a)
    front h k = sum_least l 2 three (subst Loud (sym C) (loud a 0 0 A H (lit≤ tt) (omega arith)))

    all_round : (AtMost (whole 80) a → AtMost least (sum_at l a))
        → (AtMost a (fraction 0 80 1) → AtMost least (sum_at l a))
        → AtMost least (sum_at l a)
    all_round rear-left rear-right =
        by_side (fraction 0 80 1) a (λ h. by_side a (whole 80) (front h) rear-left) rear-right

  clear_51 : AtMost least (sum_at Surround51 a)
  unfolding raw_at
  clear_51 =
      all_round Surround51 (lit< tt) refl
      (λ h. sum_least Surround51 4 (lit< tt) (loud a 110 0 A H (lit≤ tt) (omega arith)))
      (λ h. sum_least Surround51 5 (lit< tt) (loud a 0 110 A H (lit≤ tt) (omega arith)))

  clear_71 : AtMost least (sum_at Surround71 a)
  unfolding raw_at
  clear_71 =
      all_round Surround71 (lit< tt) refl
      (λ h. sum_least Surround71 6 (lit< tt) (loud a 150 0 A H (lit≤ tt) (omega arith)))
      (λ h. sum_least Surround71 7 (lit< tt) (loud a 0 150 A H (lit≤ tt) (omega arith)))

  pub clear : (l : Layout) → surround l ≡ true → AtMost least (sum_at l a)
  clear = by_surround (λ (l : Layout). AtMost least (sum_at l a)) clear_51 clear_71
