-- How many digits `round` drops of a fraction n / c of the format's smallest values: the whole part has `prec` digits
-- above the k that are dropped, or none are dropped. Assumes nothing.
use Rattle.std.specs.Prelude.{◌≡◌, ◌⊎◌, ◌+◌, ◌-◌, ◌*◌, ◌/◌, ◌^◌, ◌≤◌, ◌<◌}
use Rattle.lists.specs.Prelude.{sym, subst, inl, inr, ℕ, le_trans, le_of_eq, eq-zero-or-pos, mul_assoc, mul_comm}
use Rattle.lists.specs.Prelude.{mul-pos, div-div-eq-div-mul, div-lt_iff_lt-mul, le-div_iff_mul-le, arith, pow_pos}
use Rattle.lists.specs.Prelude.{pow-add, Format, prec, size, hid}
use lib.Ieee.Digits.{size_reaches}
use lib.Ieee.Fits.{two, kept-lt}

pub record Dropped (f : Format) (n c k : ℕ) : Type 0 where
  pub most : n < 2 ^ prec f * (c * 2 ^ k)
  pub least : (k ≡ 0) ⊎ (hid f * (c * 2 ^ k) ≤ n)

pub dropped : (f : Format) (n c : ℕ) → 0 < c → Dropped f n c (size (n / c) - prec f)
dropped f n c C = record {
  most = (div-lt_iff_lt-mul U).0
      (subst (λ (x : ℕ). x < 2 ^ p) (div-div-eq-div-mul n c (2 ^ k)) (kept-lt p (n / c)));
  least = go (eq-zero-or-pos k);
}
  where
    p : ℕ
    p = prec f

    k : ℕ
    k = size (n / c) - prec f

    U : 0 < c * 2 ^ k
    U = mul-pos C (pow_pos k)

    go : (k ≡ 0) ⊎ (0 < k) → (k ≡ 0) ⊎ (hid f * (c * 2 ^ k) ≤ n)
    go (inl z) = inl z
    go (inr h) =
        inr (le_trans (le_of_eq (simp (mul_assoc, mul_comm)))
        ((le-div_iff_mul-le C).0
        (le_trans (le_of_eq (sym (pow-add 2 (p - 1) k)))
        (size_reaches (n / c) (p - 1 + k) (omega (arith, two f))))))
