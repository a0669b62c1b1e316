-- The program clamps a position where document 01's definition does: comparing floats compares the numbers. A clamped
-- position is 100 at most in size. Assumes nothing.
use Rattle.std.specs.Prelude.{◌≡◌, ◌<◌}
use Rattle.lists.specs.Prelude.{refl, ◌∙◌, Bool, true, false, cond, arith, lit<, lit≤, pos, negsuc, Float, lt, of_int}
use Rattle.lists.proofs.Tests.{by_less}
use Rattle.fractions.specs.Fraction.{Fraction, whole, magnitude, number, is_less, AtMost}
use Rattle.fractions.proofs.Compare.{lt_number}
use Rattle.formats.specs.Floats.{float}
use Rattle.stereo.specs.Angle.{leftmost, rightmost, clamped}
use Rattle.stereo.specs.Computed.{clamped_to}

number_cond : (b : Bool) (x y : Float) → number (cond b x y) ≡ cond b (number x) (number y)
number_cond true x y = refl
number_cond false x y = refl

left_is : number (float (negsuc 99)) ≡ leftmost
unfolding of_int
left_is = refl

right_is : number (float (pos 100)) ≡ rightmost
unfolding of_int
right_is = refl

module _ (p : Float) (P : 0 < (number p).over) where
  left_test : lt p (float (negsuc 99)) ≡ is_less (number p) leftmost
  unfolding of_int
  left_test = lt_number p (float (negsuc 99)) P (lit< tt)

  right_test : lt (float (pos 100)) p ≡ is_less rightmost (number p)
  unfolding of_int
  right_test = lt_number (float (pos 100)) p (lit< tt) P

  pub clamped_number : number (clamped_to p) ≡ clamped (number p)
  unfolding clamped_to clamped
  clamped_number =
      number_cond (lt p (float (negsuc 99))) (float (negsuc 99)) (cond (lt (float (pos 100)) p) (float (pos 100)) p)
      ∙ (λ i. cond (left_test i) (left_is i)
      ((number_cond (lt (float (pos 100)) p) (float (pos 100)) p
      ∙ λ j. cond (right_test j) (right_is j) (number p)) i))

-- what is to hold of a clamped position is shown of the two ends, and between them
by_clamping : (P : Fraction → Type 0) (q : Fraction) → P leftmost → P rightmost
    → (AtMost leftmost q → AtMost q rightmost → P q) → P (clamped q)
unfolding clamped
by_clamping P q l r f = by_less P _ _ (λ a. l) (λ a. by_less P _ _ (λ b. r) (f a))

pub clamped_most : (q : Fraction) → AtMost (magnitude (clamped q)) (whole 100)
clamped_most q =
    by_clamping (λ (x : Fraction). AtMost (magnitude x) (whole 100)) q (lit≤ tt) (lit≤ tt) (λ a b. omega arith)

pub clamped_over : (q : Fraction) → 0 < q.over → 0 < (clamped q).over
clamped_over q Q = by_clamping (λ (x : Fraction). 0 < x.over) q (lit< tt) (lit< tt) (λ a b. Q)
