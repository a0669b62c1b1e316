-- A number written with all of its format's digits: n units, times 2 ^ l, is m * 2 ^ e for an m of exactly `prec`
-- digits (`Scaled`). A pattern with a leading digit has that m already (`scaled_normal`), and in one without the digits
-- are moved up (`scaled_low`). Assumes nothing.
use Rattle.std.specs.Prelude.{◌≡◌, ◌+◌, ◌-◌, ◌*◌, ◌^◌, ◌≤◌, ◌<◌}
use Rattle.lists.specs.Prelude.{sym, ap, ◌∙◌, subst, ℕ, suc, le-add_right, mul-one, mul_assoc, mul-le-mul_right, arith}
use Rattle.lists.specs.Prelude.{pow-add, shl_lt, Format, prec, hid}
use Rattle.formats.proofs.Patterns.{digits, digits_normal, twice_hid}

pub record Scaled (f : Format) (n l m e : ℕ) : Type 0 where
  pub value : m * 2 ^ e ≡ n * 2 ^ l
  pub least : hid f ≤ m
  pub most : m < 2 * hid f

-- with a leading digit
pub scaled_normal : (f : Format) (x t l : ℕ) → 0 < x → t < hid f
    → Scaled f (digits f x t * 2 ^ (x - 1)) l (hid f + t) (x - 1 + l)
scaled_normal f x t l p h = record {
  value = ap (λ (y : ℕ). (hid f + t) * y) (pow-add 2 (x - 1) l) ∙ sym (mul_assoc (hid f + t) (2 ^ (x - 1)) (2 ^ l))
      ∙ ap (λ (y : ℕ). y * 2 ^ (x - 1) * 2 ^ l) (sym (digits_normal f x t p));
  least = le-add_right (hid f) t;
  most = omega arith;
}

-- without one: t has j + 1 digits, and k zeros after them make it a number of `prec` digits
pub scaled_low : (f : Format) (t j k e l : ℕ) → 2 ^ j ≤ t → t < 2 ^ suc j → suc j + k ≡ prec f → k + e ≡ l
    → Scaled f (digits f 0 t * 2 ^ (0 - 1)) l (t * 2 ^ k) e
scaled_low f t j k e l lo hi p s = record {
  value = mul_assoc t (2 ^ k) (2 ^ e) ∙ ap (λ (y : ℕ). t * y) (sym (pow-add 2 k e) ∙ ap (λ (y : ℕ). 2 ^ y) s)
      ∙ ap (λ (y : ℕ). y * 2 ^ l) (sym (mul-one t));
  least = subst (λ (y : ℕ). 2 ^ y ≤ t * 2 ^ k) (omega arith)
      (subst (λ (y : ℕ). y ≤ t * 2 ^ k) (sym (pow-add 2 j k)) (mul-le-mul_right (2 ^ k) lo));
  most = subst (λ (y : ℕ). t * 2 ^ k < y) (ap (λ (y : ℕ). 2 ^ y) p ∙ twice_hid f) (shl_lt (suc j) k hi);
}
