-- The shorter way round, of numbers: from the place to which the program turns a speaker (itself, a turn on, or a turn
-- back) the way to the azimuth is document 01's d, and whether it is less than 90 is told by comparing the azimuth with
-- the ends. The speaker stands at the whole number p - m. Assumes nothing.
use Rattle.std.specs.Prelude.{◌≡◌, ◌+◌, ◌*◌, ◌≤◌, ◌<◌}
use Rattle.lists.specs.Prelude.{refl, sym, ap, ◌∙◌, subst, Bool, true, false, cond, ℕ, mul-pos, mul-le-mul_right, arith}
use Rattle.lists.specs.Prelude.{lit<}
use Rattle.lists.proofs.Tests.{by_less, cond_true, cond_false}
use Rattle.fractions.specs.Fraction.{Fraction, fraction, whole, magnitude, ◌⊕◌, ◌⊖◌, Same, Less, AtMost, is_less}
use Rattle.fractions.proofs.Order.{same_refl, at_most_same}
use Rattle.fractions.proofs.Compare.{less_true, less_false, is_less_lem, is_not_less, is_less_same}
use Rattle.surround.specs.Formula.{distance}

abbrev pub turned_to : Fraction → Fraction → Fraction
turned_to a q = cond (is_less (q ⊕ whole 180) a) (q ⊕ whole 360) (cond (is_less a (q ⊖ whole 180)) (q ⊖ whole 360) q)

abbrev pub is_between : Fraction → Fraction → Bool
is_between a t = cond (is_less (t ⊖ whole 90) a) (is_less a (t ⊕ whole 90)) false

-- p - m is k at most either way, times o
spread : (p m k o : ℕ) → AtMost (magnitude (fraction p m 1)) (whole k)
    → (p * o ≤ m * o + k * o) × (m * o ≤ p * o + k * o)
spread p m k o h =
    let up : p ≤ m + k = omega arith in
    let down : m ≤ p + k = omega arith in
    (omega (arith, mul-le-mul_right o up), omega (arith, mul-le-mul_right o down))

-- ---- between the ends, at a whole number
module _ (a : Fraction) (p m : ℕ) where
  abbrev there : Fraction
  there = fraction p m 1

  cases : (b c : Bool) → (b ≡ true → Less (there ⊖ whole 90) a) → (b ≡ false → AtMost a (there ⊖ whole 90))
      → (c ≡ true → Less a (there ⊕ whole 90)) → (c ≡ false → AtMost (there ⊕ whole 90) a)
      → is_less (magnitude (a ⊖ there)) (whole 90) ≡ cond b c false
  cases true true f g h k = is_less_lem (magnitude (a ⊖ there)) (whole 90) (omega (arith, f refl, h refl))
  cases true false f g h k = is_not_less (magnitude (a ⊖ there)) (whole 90) (omega (arith, k refl))
  cases false c f g h k = is_not_less (magnitude (a ⊖ there)) (whole 90) (omega (arith, g refl))

  between : is_less (magnitude (a ⊖ there)) (whole 90) ≡ is_between a there
  between =
      let low = there ⊖ whole 90 in
      let high = there ⊕ whole 90 in
      cases (is_less low a) (is_less a high) (less_true low a) (less_false low a) (less_true a high) (less_false a high)

-- ---- d is the way from a to t
pub record Way (a t d : Fraction) : Type 0 where
  pub over : 0 < d.over
  pub not_below_lem : AtMost (whole 0) d
  pub same : Same d (magnitude (a ⊖ t))
  pub near : is_less d (whole 90) ≡ is_between a t

module _ (a d : Fraction) (p m : ℕ) (A : 0 < a.over) (D : 0 < d.over)
    (s : Same d (magnitude (a ⊖ fraction p m 1))) where
  abbrev long : Fraction
  long = magnitude (a ⊖ fraction p m 1)

  long_over : 0 < long.over
  long_over = mul-pos {n = 1} A (lit< tt)

  above : AtMost (whole 0) d
  above = at_most_same (whole 0) (whole 0) d long (same_refl (whole 0)) s (lit< tt) long_over (omega arith)

  made : Way a (fraction p m 1) d
  made = record {
    over = D;
    not_below_lem = above;
    same = s;
    near = is_less_same d long (whole 90) (whole 90) D long_over (lit< tt) (lit< tt) s (same_refl (whole 90))
        ∙ between a p m;
  }

-- ---- the speaker stands at p - m
module _ (a : Fraction) (p m : ℕ) (A : 0 < a.over) (H : AtMost (magnitude a) (whole 180))
    (K : AtMost (magnitude (fraction p m 1)) (whole 180)) where
  abbrev q : Fraction
  q = fraction p m 1

  abbrev apart : Fraction
  apart = magnitude (a ⊖ q)

  O : 0 < apart.over
  O = mul-pos {n = 1} A (lit< tt)

  -- by whether it is more than 180 away
  around : Less (whole 180) apart → distance a q ≡ whole 360 ⊖ apart
  unfolding distance
  around h = cond_true (whole 360 ⊖ apart) apart (is_less_lem (whole 180) apart h)

  pub straight : AtMost apart (whole 180) → distance a q ≡ apart
  unfolding distance
  straight h = cond_false (whole 360 ⊖ apart) apart (is_not_less (whole 180) apart h)

  -- what is left of a turn, over the same number
  left_of_turn : (y : ℕ) → 360 * a.over ≡ y + apart.plus → Same (whole 360 ⊖ apart) (fraction y 0 (a.over * 1))
  left_of_turn y e = go apart.plus a.over e
    where
      go : (x o : ℕ) → 360 * o ≡ y + x → (360 * (o * 1) + 0 * 1) * (o * 1) + 0 * (1 * (o * 1))
          ≡ y * (1 * (o * 1)) + (0 * (o * 1) + x * 1) * (o * 1)
      go x o e = omega (arith, ap (λ (n : ℕ). n * o) e)

  on : Less (q ⊕ whole 180) a → Way a (q ⊕ whole 360) (distance a q)
  on h = let s = spread p m 180 a.over K in subst (λ (d : Fraction). Way a (q ⊕ whole 360) d)
      (sym (around (omega arith)))
      (made a (whole 360 ⊖ apart) (p * 1 + 360 * 1) (m * 1 + 0 * 1) A (mul-pos {m = 1} (lit< tt) O)
      (left_of_turn _ (omega arith)))

  back : Less a (q ⊖ whole 180) → Way a (q ⊖ whole 360) (distance a q)
  back h = let s = spread p m 180 a.over K in subst (λ (d : Fraction). Way a (q ⊖ whole 360) d)
      (sym (around (omega arith)))
      (made a (whole 360 ⊖ apart) (p * 1 + 0 * 1) (m * 1 + 360 * 1) A (mul-pos {m = 1} (lit< tt) O)
      (left_of_turn _ (omega arith)))

  here : AtMost a (q ⊕ whole 180) → AtMost (q ⊖ whole 180) a → Way a q (distance a q)
  here h k = subst (λ (d : Fraction). Way a q d) (sym (straight (omega arith))) (made a apart p m A O (same_refl apart))

  pub the_way : Way a (turned_to a q) (distance a q)
  the_way = let P : Fraction → Type 0 = λ t. Way a t (distance a q) in by_less P _ _ on
      (λ h. by_less P _ _ back (here h))
