-- Bit patterns of the values of a format f. A finite value is known by its sign and by how many of the format's
-- smallest values it is (`same_value`), which its fields tell (`fields_value`), and so is its pattern
-- (`to_bits_value`).
-- The pattern of q * 2 ^ k of them is one sum for subnormal and normal values, for a carry into the exponent and for an
-- infinity alike (`units_bits`, read back by `of_bits_units`). Each holds in every format. Assumes nothing.
use Rattle.std.specs.Prelude.{◌≡◌, ◌⊎◌, ◌+◌, ◌-◌, ◌*◌, ◌/◌, ◌%◌, ◌^◌, ◌≤◌, ◌<◌, ◌&&◌}
use Rattle.lists.specs.Prelude.{refl, sym, ap, ◌∙◌, subst, ℕ, zero, suc, min, le_refl, le-suc, lt_of_lt_of_le}
use Rattle.lists.specs.Prelude.{lt_of_le_of_lt, lt_irrefl, ne_of_lt, add_assoc, mul_comm, mul-pos, zero-lt-suc}
use Rattle.lists.specs.Prelude.{zero-mod, zero-div, mul-div_cancel, mul-le-mul_right, mod-eq_of_lt, div-lt_iff_lt-mul}
use Rattle.lists.specs.Prelude.{min-eq_left, min-eq_right, arith, Bool, true, false, not, cond, true≢false, ℤ, T, leb}
use Rattle.lists.specs.Prelude.{ltb, eqb, leb→le, ltb→lt, lt-ltb, le-ltb, lt-leb, ne_eqb, pow-add, pow_pos, pow-lt}
use Rattle.lists.specs.Prelude.{Float, nan, inf, fin, Format, binary32, binary64, prec, emax, low, up, down, size, odd}
use Rattle.lists.specs.Prelude.{units, round, ne, fits, is_nan, hid, ones, top, of_fields, of_bits, to_bits, nan_bits}
use lib.Ieee.Fits.{two, reach, two-le_pos, down_pos, odd-fits, inf-fits, and_l, and_r}
use lib.Ieee.Bits.{of_bits-to_bits, nan_bits_is, nan_bits_above}
use lib.Ieee.Compare.{nan_differs}
use lib.Ieee.Exact.{HasValue, odd_sign}
use lib.Ieee.Scale.{overflow, finite}
use Rattle.lists.proofs.Tests.{by_less}
use Rattle.formats.specs.Floats.{zero_float}
use Rattle.formats.proofs.Digits.{twice, pack, under_end, past_end}

pub some_digits : (f : Format) → 0 < prec f
some_digits f = two-le_pos (prec f) (two f)

pub twice_hid : (f : Format) → 2 ^ prec f ≡ 2 * hid f
twice_hid f = twice (prec f) (some_digits f)

-- ---- the pattern of a finite value, which is a of the format's smallest values
pub to_bits_value : (f : Format) (s : Bool) (v : Float) (a : ℕ) → HasValue v s a (2 ^ low f)
    → to_bits f v ≡ cond s (top f) 0 + ((size a - prec f) * hid f + a / 2 ^ (size a - prec f))
unfolding to_bits
to_bits_value f s nan a h = absurd h
to_bits_value f s (inf t) a h = absurd h
to_bits_value f s (fin t m e) a h =
    let n : m * up e * 2 ^ low f / down e ≡ a = ap (λ (x : ℕ). x / down e) h.1 ∙ mul-div_cancel a (down_pos e) in
    ap (λ (x : ℕ). cond t (top f) 0 + (size x - prec f) * hid f + x / 2 ^ (size x - prec f)) n
    ∙ ap (λ (b : Bool). cond b (top f) 0 + (size a - prec f) * hid f + a / 2 ^ (size a - prec f)) h.0
    ∙ add_assoc (cond s (top f) 0) ((size a - prec f) * hid f) (a / 2 ^ (size a - prec f))

pub same_value : (f : Format) (s : Bool) (x y : Float) (a : ℕ) → T (fits f x) → T (fits f y)
    → HasValue x s a (2 ^ low f) → HasValue y s a (2 ^ low f) → x ≡ y
same_value f s x y a p q h k =
    sym (of_bits-to_bits f x p) ∙ ap (of_bits f) (to_bits_value f s x a h ∙ sym (to_bits_value f s y a k))
    ∙ of_bits-to_bits f y q

pub to_bits_inf : (f : Format) (s : Bool) → to_bits f (inf s) ≡ cond s (top f) 0 + ones f * hid f
unfolding to_bits
to_bits_inf f s = refl

-- ---- the pattern of q * 2 ^ k of them, for a q of the format's digits, or the next number after these: k is 0, or q
-- has its leading digit
-- the overflow, 2 ^ (low + emax + 1), is 2 ^ (2 * emax) * hid
end_is : (f : Format) → overflow f ≡ 2 ^ (2 * emax f) * hid f
end_is f = ap (λ (x : ℕ). 2 ^ x) (omega (arith, two f)) ∙ pow-add 2 (2 * emax f) (prec f - 1)

module _ (f : Format) (s : Bool) (q k : ℕ) (h : q ≤ 2 ^ prec f) where
  pub units_fits : T (fits f (units f s q k))
  unfolding units
  units_fits =
      by_less (λ (x : Float). T (fits f x)) (q * 2 ^ k) (overflow f)
      (odd-fits f (suc (prec f)) s q k (lt_of_le_of_lt h (pow-lt (le_refl (suc (prec f))))) h) (λ l. inf-fits f s)

  module _ (g : (k ≡ 0) ⊎ (hid f ≤ q)) where
    few : q ≤ 2 * hid f
    few = subst (λ (x : ℕ). q ≤ x) (twice_hid f) h

    some : 0 < 2 * emax f
    some = omega (arith, two f, reach f)

    pub under_inf : q * 2 ^ k < overflow f → k * hid f + q ≤ ones f * hid f
    under_inf l = under_end (hid f) q k (2 * emax f) some few g (subst (λ (x : ℕ). q * 2 ^ k < x) (end_is f) l)

    past_inf : overflow f ≤ q * 2 ^ k → ones f * hid f ≤ k * hid f + q
    past_inf l = past_end (hid f) q k (2 * emax f) (pow_pos (prec f - 1)) some few g
        (subst (λ (x : ℕ). x ≤ q * 2 ^ k) (end_is f) l)

    pub units_bits : to_bits f (units f s q k) ≡ cond s (top f) 0 + min (k * hid f + q) (ones f * hid f)
    unfolding units
    units_bits =
        by_less (λ (v : Float). to_bits f v ≡ cond s (top f) 0 + min (k * hid f + q) (ones f * hid f)) (q * 2 ^ k)
        (overflow f)
        (λ l. to_bits_value f s (odd (suc (prec f)) s q k (low f)) (q * 2 ^ k) (odd_sign (suc (prec f)) s q k (low f))
        ∙ ap (λ (x : ℕ). cond s (top f) 0 + x)
        (pack (prec f) q k (some_digits f) h g ∙ sym (min-eq_left (under_inf l))))
        (λ r. to_bits_inf f s ∙ ap (λ (x : ℕ). cond s (top f) 0 + x) (sym (min-eq_right (past_inf r))))

    pub of_bits_units : of_bits f (cond s (top f) 0 + min (k * hid f + q) (ones f * hid f)) ≡ units f s q k
    of_bits_units = ap (of_bits f) (sym units_bits) ∙ of_bits-to_bits f (units f s q k) units_fits

-- ---- what the fields are worth: the exponent's field x and the digits t
abbrev pub digits : Format → ℕ → ℕ → ℕ
digits f zero t = t
digits f (suc x) t = hid f + t

pub digits_normal : (f : Format) (x t : ℕ) → 0 < x → digits f x t ≡ hid f + t
digits_normal f zero t h = absurd (lt_irrefl 0 h)
digits_normal f (suc x) t h = refl

pub digits_lt : (f : Format) (x t : ℕ) → t < hid f → digits f x t < 2 ^ prec f
digits_lt f x t h = subst (λ (z : ℕ). digits f x t < z) (sym (twice_hid f)) (go x)
  where
    go : (x : ℕ) → digits f x t < 2 * hid f
    go zero = omega arith
    go (suc x) = omega arith

pub fields_value : (f : Format) (s : Bool) (x t : ℕ) → x < ones f
    → HasValue (of_fields f s x t) s (digits f x t * 2 ^ (x - 1)) (2 ^ low f)
unfolding of_fields
fields_value f s zero t h = odd_sign (prec f) s t 0 (low f)
fields_value f s (suc x) t h =
    subst (λ (j : ℕ). HasValue (of_fields f s (suc x) t) s ((hid f + t) * 2 ^ j) (2 ^ low f)) (omega arith)
    (subst (λ (b : Bool). HasValue (cond b (cond (eqb t 0) (inf s) nan) (odd (prec f) s (hid f + t) x (low f))) s
    ((hid f + t) * 2 ^ x) (2 ^ low f)) (sym (ne_eqb (suc x) (ones f) (ne_of_lt h)))
    (odd_sign (prec f) s (hid f + t) x (low f)))

pub fields_inf : (f : Format) (s : Bool) → of_fields f s (ones f) 0 ≡ inf s
unfolding of_fields
fields_inf binary32 s = refl
fields_inf binary64 s = refl

pub of_bits_fields : (f : Format) (b : ℕ) → of_bits f b ≡ of_fields f (leb (top f) b) (b % top f / hid f) (b % hid f)
unfolding of_bits
of_bits_fields f b = refl

-- a pattern below the infinity's has no sign
pub unpack : (f : Format) (b : ℕ) → b < ones f * hid f → HasValue (of_bits f b) false
    (digits f (b / hid f) (b % hid f) * 2 ^ (b / hid f - 1)) (2 ^ low f)
unpack f b h = subst (λ (v : Float). HasValue v false (digits f (b / hid f) (b % hid f) * 2 ^ (b / hid f - 1))
    (2 ^ low f)) (sym is) (fields_value f false (b / hid f) (b % hid f)
    ((div-lt_iff_lt-mul (pow_pos (prec f - 1))).1 h))
  where
    under : b < top f
    under = lt_of_lt_of_le h (subst (λ (x : ℕ). ones f * hid f ≤ x) (mul_comm (suc (ones f)) (hid f))
        (mul-le-mul_right (hid f) (le-suc (ones f))))

    is : of_bits f b ≡ of_fields f false (b / hid f) (b % hid f)
    is =
        of_bits_fields f b
        ∙ ap (λ (s : Bool). of_fields f s (b % top f / hid f) (b % hid f)) (lt-leb (top f) b under)
        ∙ ap (λ (r : ℕ). of_fields f false (r / hid f) (b % hid f)) (mod-eq_of_lt under)

-- ---- what `fits` says of a number that is not zero
pub record Held (f : Format) (m : ℕ) (e : ℤ) : Type 0 where
  pub few_digits : m < 2 ^ prec f
  pub deep : down e ≤ 2 ^ low f
  pub small : m * up e < 2 ^ suc (emax f) * down e

pub held : (f : Format) (s : Bool) (m : ℕ) (e : ℤ) → T (fits f (fin s (suc m) e)) → Held f (suc m) e
unfolding fits
held f s m e t =
    let a = eqb (suc m % 2) 1 in
    let b = ltb (suc m) (2 ^ prec f) in
    let c = leb (down e) (2 ^ low f) in
    let d = ltb (suc m * up e) (2 ^ suc (emax f) * down e) in
    let abc = and_l (a && b && c) d t in
    record {
      few_digits = ltb→lt (suc m) (2 ^ prec f) (and_r a b (and_l (a && b) c abc));
      deep = leb→le (down e) (2 ^ low f) (and_r (a && b) c abc);
      small = ltb→lt (suc m * up e) (2 ^ suc (emax f) * down e) (and_r (a && b && c) d t);
    }

-- ---- what is a NaN, and what is none
pub is_nan_lem : (x : Float) → is_nan x ≡ true → x ≡ nan
unfolding is_nan
is_nan_lem nan h = refl
is_nan_lem (inf s) h = absurd (true≢false (sym h))
is_nan_lem (fin s m e) h = absurd (true≢false (sym h))

-- the pattern of 0.0
pub zero_bits : (f : Format) → of_bits f 0 ≡ zero_float
unfolding of_bits of_fields odd
zero_bits f =
    λ i. of_fields f (lt-leb (top f) 0 (mul-pos (pow_pos (prec f - 1)) (zero-lt-suc (ones f))) i)
    ((ap (λ (x : ℕ). x / hid f) (zero-mod (top f)) ∙ zero-div (hid f)) i) (zero-mod (hid f) i)

-- beyond the pattern of an infinity stand the NaNs
pub nan_pattern : (f : Format) (n : ℕ) → ones f * hid f < n % top f → of_bits f n ≡ nan
nan_pattern f n h =
    is_nan_lem (of_bits f n) (sym (nan_bits_is f n) ∙ nan_bits_above f n ∙ lt-ltb (ones f * hid f) (n % top f) h)

pub number_pattern : (f : Format) (n : ℕ) → n % top f ≤ ones f * hid f → T (not (nan_bits f n))
number_pattern f n h = rw (nan_bits_above f n, le-ltb (ones f * hid f) (n % top f) h) tt

pub no_nan : (x : Float) → ne x x ≡ false → T (not (is_nan x))
unfolding is_nan
no_nan nan h = absurd (true≢false (sym nan_differs ∙ h))
no_nan (inf s) h = tt
no_nan (fin s m e) h = tt

pub units_no_nan : (f : Format) (s : Bool) (q k : ℕ) → T (not (is_nan (units f s q k)))
unfolding units odd is_nan
units_no_nan f s q k = go (ltb (q * 2 ^ k) (overflow f)) q
  where
    go : (b : Bool) (q : ℕ) → T (not (is_nan (cond b (odd (suc (prec f)) s q k (low f)) (inf s))))
    go true zero = tt
    go true (suc q) = tt
    go false q = tt

pub round_no_nan : (f : Format) (s : Bool) (a c : ℕ) → T (not (is_nan (round f s a c)))
unfolding round
round_no_nan f s a c = units_no_nan f s _ _

pub pattern_no_nan : (f : Format) (v : Float) → T (fits f v) → T (not (is_nan v)) → T (not (nan_bits f (to_bits f v)))
pattern_no_nan f v h n =
    subst (λ (b : Bool). T (not b)) (sym (nan_bits_is f (to_bits f v) ∙ ap is_nan (of_bits-to_bits f v h))) n

pub finite_no_nan : (x : Float) → finite x ≡ true → T (not (is_nan x))
unfolding is_nan
finite_no_nan nan h = absurd (true≢false (sym h))
finite_no_nan (inf s) h = tt
finite_no_nan (fin s m e) h = tt
