-- The inverse of a root: what is answered for 0 and for any other number, and what a caller that asks for another
-- takes. Assumes nothing.
use Rattle.std.specs.Prelude.{◌≡◌, ◌<◌, Result, Ok, IsOk}
use Rattle.lists.specs.Prelude.{sym, ap, ◌∙◌, ℕ, arith, ne_eqb, Float}
use Rattle.refusals.specs.declared.Refusal.{Refusal}
use Rattle.refusals.specs.Numbers.{told, value_in}
use Rattle.refusals.proofs.Numbers.{accepted_ok}
use Rattle.refusals.proofs.First.{answered_accepted}
use Rattle.lists.proofs.Tests.{cond_false}
use Rattle.formats.specs.Floats.{zero_float}
use Rattle.numbers.specs.Normalization.{inverse_root_of, inverse_refusal, inverse_answer, InverseRoot}
use Rattle.numbers.specs.Normalization.{Inverse}

abbrev refusing : ℕ → Inverse
refusing n = record { refusal = n; value = zero_float }

pub inverse_refused : (n : ℕ) → n ≡ 0 → refusing 2 ≡ inverse_answer n
inverse_refused n e = sym (ap inverse_answer e)

pub inverse_accepted : (n : ℕ) → (n ≡ 0 → ⊥) → inverse_answer n ≡ record { refusal = 0; value = inverse_root_of n }
inverse_accepted n h =
    answered_accepted (record { refusal = 0; value = inverse_root_of n }) refusing (inverse_refusal n)
    (cond_false 2 0 (ne_eqb n 0 h))

-- 1.0 over the root of a count above 0 is to be had
pub inverse_ok : (n : ℕ) (r : Result Float Refusal) → 0 < n → InverseRoot n (told zero_float r) → IsOk r
inverse_ok n r h p =
    accepted_ok r (ap (λ (x : Inverse). x.refusal) (p.bits ∙ inverse_accepted n (λ e. omega arith)))

pub inverse_value : (n : ℕ) (r : Inverse) → 0 < n → InverseRoot n r → r.value ≡ inverse_root_of n
inverse_value n r h p = ap (λ (x : Inverse). x.value) (p.bits ∙ inverse_accepted n (λ e. omega arith))

-- so what such a count is answered with is known
pub inverse_known : (n : ℕ) (r : Result Float Refusal) (v : Float) → 0 < n → InverseRoot n (told zero_float r)
    → r ≡ Ok v → v ≡ inverse_root_of n
inverse_known n r v h p e = ap (value_in zero_float) (sym e) ∙ inverse_value n (told zero_float r) h p
