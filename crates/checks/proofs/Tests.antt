-- Why the tests are right: a number is finite exactly if it lies between the infinities, and n is a * b exactly if a
-- divides it b times. Assumes nothing.
use Rattle.std.specs.Prelude.{◌≡◌, ◌*◌, ◌/◌, ◌%◌, ◌<◌}
use Rattle.lists.specs.Prelude.{refl, sym, ap, ◌∙◌, false, ℕ, div-add-mod', mul-mod_right}
use Rattle.lists.specs.Prelude.{mul-div_right, ℕ_discrete, arith, eq-eqb, ne_eqb, eqb, Float, nan, inf, fin}
use Rattle.std.specs.Float.{float_is_finite}
use lib.Ieee.Scale.{finite}

pub finite_is : (x : Float) → float_is_finite x ≡ finite x
unfolding float_is_finite
finite_is nan = refl
finite_is (inf s) = refl
finite_is (fin s m e) = refl

module _ (n a b : ℕ) where
  pub product_of_zero : a ≡ 0 → eqb n 0 ≡ eqb n (a * b)
  product_of_zero h = let z : a * b ≡ 0 = ap (λ (k : ℕ). k * b) h ∙ omega arith in rw z

  pub product_of_remainder : (n % a ≡ 0 → ⊥) → false ≡ eqb n (a * b)
  product_of_remainder h = sym (ne_eqb n (a * b) (λ e. h (ap (λ (k : ℕ). k % a) e ∙ mul-mod_right a b)))

  pub product_of_quotient : 0 < a → n % a ≡ 0 → eqb (n / a) b ≡ eqb n (a * b)
  product_of_quotient h r =
      elim (ℕ_discrete (n / a) b) [
        | yes k ↦ eq-eqb (n / a) b k ∙ sym (eq-eqb n (a * b) (sym (div-add-mod' n a) ∙ rw (k, r) (omega arith)))
        | no k ↦ ne_eqb (n / a) b k ∙ sym (ne_eqb n (a * b) (λ e. k (ap (λ (m : ℕ). m / a) e ∙ mul-div_right b h)))
      ]
