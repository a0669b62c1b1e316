-- Sums, products and quotients of the zeros of binary64: 0.0 times a finite number is a zero of some sign, 0.0 with a
-- zero of either sign added is 0.0, and 0.0 over a number above 0 is 0.0. Assumes nothing.
use Rattle.std.specs.Prelude.{◌≡◌, ◌*◌}
use Rattle.lists.specs.Prelude.{refl, ap, ◌∙◌, Bool, true, false, ℕ, zero-mul, mul-pos, lt_irrefl, ne_eqb, T, lit<, ℤ}
use Rattle.lists.specs.Prelude.{pos, Float, fin, binary64, add, mul, div, round, sum, size, span, climb, units, odd, up}
use Rattle.lists.specs.Prelude.{down, unlike}
use lib.Ieee.Fits.{up_pos, down_pos}
use lib.Ieee.Positive.{positive}
use Rattle.lists.proofs.Tests.{cond_false}
use Rattle.fractions.proofs.Number.{by_positive}
use Rattle.formats.specs.Floats.{zero_float}
use Rattle.formats.proofs.Zeros.{zero_rounded}

pub zero_times : (t : Bool) (m : ℕ) (e : ℤ) → mul binary64 zero_float (fin t m e) ≡ fin (unlike false t) 0 (pos 0)
unfolding mul
zero_times t m e = ap (λ (k : ℕ). round binary64 (unlike false t) k (1 * down e)) (zero-mul (m * up e))
    ∙ zero_rounded binary64 (unlike false t) (1 * down e) (mul-pos {m = 1} (lit< tt) (down_pos e))

pub zero_plus : (s : Bool) → add binary64 zero_float (fin s 0 (pos 0)) ≡ zero_float
unfolding add sum round size span climb units odd
zero_plus true = refl
zero_plus false = refl

pub zero_over : (r : Float) → T (positive r) → div binary64 zero_float r ≡ zero_float
unfolding div
zero_over = by_positive (λ r. div binary64 zero_float r ≡ zero_float) (λ m e M.
    cond_false _ _ (ne_eqb m 0 (λ z. lt_irrefl 0 (rw (← z) M)))
    ∙ ap (λ (k : ℕ). round binary64 false k (m * up e * 1)) (zero-mul (down e))
    ∙ zero_rounded binary64 false (m * up e * 1) (mul-pos (mul-pos M (up_pos e)) (lit< tt)))
