-- The numbers that a format holds, in units of its smallest value: each is c * 2 ^ i for a c of the format's digits,
-- below the overflow (`Grid`, `held_units`). So each is a multiple of 2 ^ k, or too short to have `prec` digits above
-- the k lowest (`grid_or_small`). Assumes nothing.
use Rattle.std.specs.Prelude.{◌≡◌, ◌⊎◌, ◌+◌, ◌-◌, ◌*◌, ◌/◌, ◌^◌, ◌≤◌, ◌<◌}
use Rattle.lists.specs.Prelude.{refl, sym, ap, ◌∙◌, subst, inl, inr, ℕ, zero, suc, lt_of_lt_of_le, lt_of_not-le}
use Rattle.lists.specs.Prelude.{lt_of_mul-lt-mul_right, zero-mul, mul-one, one-mul, mul_assoc, mul-le-mul_right}
use Rattle.lists.specs.Prelude.{mul-lt-mul_of_pos_right, sub-add_cancel, dec_le, arith, Bool, false, ℤ, pos, negsuc, T}
use Rattle.lists.specs.Prelude.{pow_pos, pow-add, pow_mono, shl_lt, Float, fin, Format, prec, emax, low, up, down, size}
use Rattle.lists.specs.Prelude.{fits, hid, ones, to_bits}
use lib.Ieee.Digits.{size-le}
use lib.Ieee.Fits.{two, reach, kept-lt}
use lib.Ieee.Exact.{HasValue}
use lib.Ieee.Scale.{overflow}
use Rattle.formats.proofs.Digits.{exponent_le}
use Rattle.formats.proofs.Patterns.{twice_hid, same_value, to_bits_value, held}

pub record Grid (f : Format) (w : ℕ) : Type 0 where
  pub c : ℕ
  pub i : ℕ
  pub is : w ≡ c * 2 ^ i
  pub fit : c < 2 ^ prec f
  pub room : w < overflow f

-- a value of the format, by its sign and its units
pub record Units (f : Format) (s : Bool) (y : Float) : Type 0 where
  pub w : ℕ
  pub value : HasValue y s w (2 ^ low f)
  pub grid : Grid f w

-- 2 ^ e is 2 ^ (lift e) units
lift : Format → ℤ → ℕ
lift f (pos k) = k + low f
lift f (negsuc k) = low f - suc k

lift_is : (f : Format) (e : ℤ) → down e ≤ 2 ^ low f → up e * 2 ^ low f ≡ 2 ^ lift f e * down e
unfolding lift
lift_is f (pos k) h = sym (pow-add 2 k (low f)) ∙ sym (mul-one (2 ^ (k + low f)))
lift_is f (negsuc k) h = one-mul (2 ^ low f) ∙ ap (λ (x : ℕ). 2 ^ x)
    (sym (sub-add_cancel (exponent_le (suc k) (low f) h))) ∙ pow-add 2 (low f - suc k) (suc k)

pub zero_value : (s : Bool) (e : ℤ) (c : ℕ) → HasValue (fin s 0 e) s 0 c
zero_value s e c = (refl, ap (λ (x : ℕ). x * c) (zero-mul (up e)) ∙ zero-mul c ∙ sym (zero-mul (down e)))

pub zero_grid : (f : Format) → Grid f 0
zero_grid f = record { c = 0; i = 0; is = refl; fit = pow_pos (prec f); room = pow_pos (low f + suc (emax f)) }

pub held_units : (f : Format) (s : Bool) (m : ℕ) (e : ℤ) → T (fits f (fin s m e)) → Units f s (fin s m e)
held_units f s zero e t = record { w = 0; value = zero_value s e (2 ^ low f); grid = zero_grid f }
held_units f s (suc m) e t =
    let h = held f s m e t in
    let j = lift f e in
    let is : suc m * up e * 2 ^ low f ≡ suc m * 2 ^ j * down e = mul_assoc (suc m) (up e) (2 ^ low f)
    ∙ ap (λ (x : ℕ). suc m * x) (lift_is f e h.deep) ∙ sym (mul_assoc (suc m) (2 ^ j) (down e)) in
    let below : suc m * 2 ^ j * down e < overflow f * down e = omega (
      arith,
      is,
      mul-lt-mul_of_pos_right h.small (pow_pos (low f)),
      ap (λ (x : ℕ). x * down e) (pow-add 2 (low f) (suc (emax f))),
    ) in
    record {
      w = suc m * 2 ^ j;
      value = (refl, is);
      grid = record { c = suc m; i = j; is = refl; fit = h.few_digits; room = lt_of_mul-lt-mul_right (down e) below };
    }

-- such a number is a multiple of 2 ^ k, or is below the numbers of prec digits times 2 ^ k
pub grid_or_small : (f : Format) (w k : ℕ) → Grid f w → ((W : ℕ) × (w ≡ W * 2 ^ k)) ⊎ (w < hid f * 2 ^ k)
grid_or_small f w k g = go (dec_le k g.i)
  where
    go : Dec (k ≤ g.i) → ((W : ℕ) × (w ≡ W * 2 ^ k)) ⊎ (w < hid f * 2 ^ k)
    go (yes l) = inl (
      g.c * 2 ^ (g.i - k),
      g.is ∙ ap (λ (x : ℕ). g.c * x)
          (ap (λ (x : ℕ). 2 ^ x) (sym (sub-add_cancel l)) ∙ pow-add 2 (g.i - k) k)
          ∙ sym (mul_assoc g.c (2 ^ (g.i - k)) (2 ^ k)),
    )
    go (no n) =
        inr (subst (λ (x : ℕ). w < x) (pow-add 2 (prec f - 1) k)
        (lt_of_lt_of_le (subst (λ (x : ℕ). x < 2 ^ (prec f + g.i)) (sym g.is) (shl_lt (prec f) g.i g.fit))
        (pow_mono (omega (arith, two f, lt_of_not-le n)))))

-- ---- a finite value that is not negative has a pattern below the infinity's
pub finite_below : (f : Format) (m : ℕ) (e : ℤ) → T (fits f (fin false m e))
    → to_bits f (fin false m e) < ones f * hid f
finite_below f m e t =
    let u = held_units f false m e t in
    let p = prec f in
    let w = u.w in
    let k = size w - p in
    subst (λ (x : ℕ). x < ones f * hid f) (sym (to_bits_value f false (fin false m e) w u.value))
    (fit (hid f) k (w / 2 ^ k) (ones f) (subst (λ (x : ℕ). w / 2 ^ k < x) (twice_hid f) (kept-lt p w))
    (omega (arith, two f, reach f, size-le w (low f + suc (emax f)) u.grid.room)))
  where
    fit : (h k b o : ℕ) → b < 2 * h → suc (suc k) ≤ o → 0 + (k * h + b) < o * h
    fit h k b o l g = omega (arith, mul-le-mul_right h g)

-- a zero is written in one way
pub zero_written : (f : Format) (s : Bool) (e : ℤ) → T (fits f (fin s 0 e)) → fin s 0 e ≡ fin s 0 (pos 0)
unfolding fits
zero_written f s e h =
    same_value f s (fin s 0 e) (fin s 0 (pos 0)) 0 h tt (zero_value s e (2 ^ low f)) (zero_value s (pos 0) (2 ^ low f))
