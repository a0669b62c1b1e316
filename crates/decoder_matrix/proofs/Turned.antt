-- Where an azimuth of a Custom layout is above 180, turning it back by 360 is exact; so the speaker sits where document
-- 01 puts it, seen from the other side. By one test over the tables. Assumes nothing.
use Rattle.std.specs.Prelude.{◌≤◌, ◌<◌, ◌≡◌}
use Rattle.lists.specs.Prelude.{ℕ, zero-le, arith, refl, sym, ◌∙◌, Bool, true, false, not, cond, eqb-true, not-false}
use Rattle.lists.specs.Prelude.{pos, round, of_int, sub, mul, div, lt}
use Rattle.lists.proofs.Tests.{cond_true}
use Rattle.fractions.specs.Fraction.{number, whole, ◌⊖◌, Same}
use Rattle.lists.specs.Tables.{tab, any}
use Rattle.checks.proofs.Checks.{at_each}
use Rattle.fractions.proofs.Order.{is_same}
use Rattle.formats.specs.Floats.{float}
use Rattle.decoder_matrix.specs.Speakers.{custom_azimuth, turned_back}

exact_at : ℕ → ℕ → Bool
exact_at n i = let a = custom_azimuth n i in cond (lt (float (pos 180)) a)
    (is_same (number (turned_back a)) (number a ⊖ whole 360)) true

all_exact : any (tab 1 16 (λ n. any (tab 0 n (λ i. not (exact_at n i))))) ≡ false
unfolding exact_at of_int custom_azimuth turned_back round sub mul div lt
all_exact = refl

pub turned_exactly : (n i : ℕ) → 1 ≤ n → n ≤ 16 → i < n → lt (float (pos 180)) (custom_azimuth n i) ≡ true
    → Same (number (turned_back (custom_azimuth n i))) (number (custom_azimuth n i) ⊖ whole 360)
unfolding exact_at
turned_exactly n i h m l t =
    let e = not-false (exact_at n i)
    (at_each 0 n (λ i. not (exact_at n i))
    (at_each 1 16 (λ n. any (tab 0 n (λ i. not (exact_at n i)))) all_exact n h (omega arith)) i zero-le
    (omega arith)) in
    eqb-true _ _ (sym (cond_true _ _ t) ∙ e)
