-- What `rounded` makes of an f64's fields, as a bit pattern. M * 2 ^ j / 2 ^ L is rounded by one shift of M, whether
-- the result is subnormal, normal or an infinity (`scaled_bits`, in every format), and the three cases of
-- `narrow_magnitude` are three such shifts, with the digits of binary64 and binary32. Assumes nothing.
use Rattle.std.specs.Prelude.{◌≡◌, ◌⊎◌, ◌&&◌, ◌+◌, ◌-◌, ◌*◌, ◌/◌, ◌%◌, ◌^◌, ◌≤◌, ◌<◌}
use Rattle.lists.specs.Prelude.{refl, sym, ap, ◌∙◌, inl, inr, Bool, true, false, not, cond, ℕ, min, le_trans, le_of_eq}
use Rattle.lists.specs.Prelude.{lt_of_lt_of_le, eq-or-lt_of_le, mul_assoc, mul_comm, mul_left_comm, mul-pos}
use Rattle.lists.specs.Prelude.{mul-le-mul_right, mul-lt-mul_of_pos_right, lt_of_mul-lt-mul_right}
use Rattle.lists.specs.Prelude.{le_of_mul-le-mul_right, le-div_iff_mul-le, div-lt_iff_lt-mul, arith, T, eqb, eqb→eq}
use Rattle.lists.specs.Prelude.{pow-add, pow_pos, pow_mono, Float, nan, inf, fin, Format, binary32, binary64, prec, low}
use Rattle.lists.specs.Prelude.{up, down, size, units, round, fits, is_nan, hid, ones, top, of_fields, to_bits}
use Rattle.lists.specs.Prelude.{nan_bits}
use lib.Ieee.Fits.{down_pos, eq→eqb, core, round_is, round-fits, nan-fits, inf-fits}
use lib.Ieee.Exact.{HasValue}
use lib.Ieee.Nearest.{closest, closest_same}
use lib.Ieee.Scale.{round_same}
use Rattle.fractions.proofs.Closest.{closest_le, closest_ge, closest_zero}
use Rattle.fractions.proofs.Number.{by_value}
use Rattle.formats.proofs.Digits.{drop_is}
use Rattle.formats.proofs.Patterns.{some_digits, to_bits_inf, units_bits, digits, digits_normal, digits_lt}
use Rattle.formats.proofs.Patterns.{fields_value}
use Rattle.formats.proofs.Patterns.{fields_inf, round_no_nan}
use Rattle.numbers.specs.Computed.{rounded, narrowed}

-- ---- M * 2 ^ j / 2 ^ L rounded: M is shifted by t once, and the pattern's field is k
scaled_bits : (f : Format) (s : Bool) (M j k t L : ℕ) → j + low f + t ≡ L + k → M < 2 ^ (prec f + t)
    → (k ≡ 0) ⊎ (2 ^ (prec f - 1 + t) ≤ M)
    → to_bits f (round f s (M * 2 ^ j) (2 ^ L)) ≡ cond s (top f) 0 + min
    (k * hid f + closest M (2 ^ t)) (ones f * hid f)
scaled_bits f s M j k t L e h g =
    let p = prec f in
    let P : 0 < p = some_digits f in
    let N = M * 2 ^ j * 2 ^ low f in
    let U = 2 ^ L * 2 ^ k in
    let T2 : 0 < 2 ^ t = pow_pos t in
    let UP : 0 < U = mul-pos (pow_pos L) (pow_pos k) in
    let x : N * 2 ^ t ≡ M * U =
    ap (λ (z : ℕ). z * 2 ^ t) (mul_assoc M (2 ^ j) (2 ^ low f)) ∙ mul_assoc M (2 ^ j * 2 ^ low f) (2 ^ t)
    ∙ ap (λ (z : ℕ). M * z) (ap (λ (z : ℕ). z * 2 ^ t) (sym (pow-add 2 j (low f))) ∙ sym (pow-add 2 (j + low f) t)
    ∙ ap (λ (z : ℕ). 2 ^ z) e ∙ pow-add 2 L k) in
    let hi : N < 2 ^ (p + k) * 2 ^ L =
    lt_of_mul-lt-mul_right (2 ^ t) (rw x (lt_of_lt_of_le (mul-lt-mul_of_pos_right h UP)
    (le_of_eq (simp (pow-add, mul_assoc, mul_comm, mul_left_comm))))) in
    let lo : (k ≡ 0) ⊎ (2 ^ (p - 1 + k) ≤ N / 2 ^ L) = low_of p N x g in
    let d : size (N / 2 ^ L) - p ≡ k = drop_is p (N / 2 ^ L) k P ((div-lt_iff_lt-mul (pow_pos L)).1 hi) lo in
    ap (to_bits f)
    (round_is f s (M * 2 ^ j) (2 ^ L)
    ∙ ap (λ (z : ℕ). core f s N (2 ^ L) z) d
    ∙ ap (λ (z : ℕ). units f s z k) (closest_same N U M (2 ^ t) UP T2 x))
    ∙ units_bits f s (closest M (2 ^ t)) k
    (closest_le M (2 ^ t) (2 ^ p) T2 (rw (← pow-add 2 p t) h)) (lead p T2 g)
  where
    low_of : (p N : ℕ) → N * 2 ^ t ≡ M * (2 ^ L * 2 ^ k) → (k ≡ 0) ⊎ (2 ^ (p - 1 + t) ≤ M)
        → (k ≡ 0) ⊎ (2 ^ (p - 1 + k) ≤ N / 2 ^ L)
    low_of p N x (inl z) = inl z
    low_of p N x (inr l) =
        inr ((le-div_iff_mul-le (pow_pos L)).1
        (le_of_mul-le-mul_right
        (le_trans (le_of_eq (simp (pow-add, mul_assoc, mul_comm, mul_left_comm)))
        (le_trans (mul-le-mul_right (2 ^ L * 2 ^ k) l) (le_of_eq (sym x)))) (pow_pos t)))

    lead : (p : ℕ) → 0 < 2 ^ t → (k ≡ 0) ⊎ (2 ^ (p - 1 + t) ≤ M) → (k ≡ 0) ⊎ (2 ^ (p - 1) ≤ closest M (2 ^ t))
    lead p T2 (inl z) = inl z
    lead p T2 (inr l) = inr (closest_ge M (2 ^ t) (2 ^ (p - 1)) T2 (le_trans (le_of_eq (sym (pow-add 2 (p - 1) t))) l))

-- ---- by any fraction that the value equals
rounded_of : (f : Format) (v : Float) (s : Bool) (a c : ℕ) → 0 < c → HasValue v s a c → rounded f v ≡ round f s a c
unfolding rounded
rounded_of f v s a c C = by_value (λ v. rounded f v ≡ round f s a c) s a c
    (λ m e h. round_same f s (m * up e) (down e) a c (down_pos e) C h) v

rounded_inf : (f : Format) (s : Bool) → rounded f (inf s) ≡ inf s
unfolding rounded
rounded_inf f s = refl

-- ---- the field e and the digits d of an f64 that is finite: its digits are shifted by t, and the field of the f32's
-- pattern is k
module _ (s : Bool) (e d : ℕ) (h : d < 2 ^ 52) where
  abbrev Narrow : ℕ → Type 0
  Narrow r = to_bits binary32 (narrowed (of_fields binary64 s e d)) ≡ cond s (2 ^ 31) 0 + r

  shifted : (k t : ℕ) → e < 2047 → e - 1 + 149 + t ≡ 1074 + k → digits binary64 e d < 2 ^ (24 + t)
      → (k ≡ 0) ⊎ (2 ^ (23 + t) ≤ digits binary64 e d)
      → Narrow (min (k * 2 ^ 23 + closest (digits binary64 e d) (2 ^ t)) (255 * 2 ^ 23))
  shifted k t l i m g =
      ap (to_bits binary32) (rounded_of binary32 (of_fields binary64 s e d) s (digits binary64 e d * 2 ^ (e - 1))
      (2 ^ 1074) (pow_pos 1074) (fields_value binary64 s e d l))
      ∙ scaled_bits binary32 s (digits binary64 e d) (e - 1) k t 1074 i m g

  few : digits binary64 e d < 2 ^ 53
  few = digits_lt binary64 e d h

  -- the leading digit is there
  lead : 0 < e → digits binary64 e d ≡ 2 ^ 52 + d
  lead p = digits_normal binary64 e d p

  wide : 2 ^ 52 + d < 2 ^ 53
  wide = omega arith

  more : (t : ℕ) → 29 ≤ t → 53 ≤ 24 + t
  more t i = omega arith

  -- ---- below half of the smallest value
  pub tiny : e < 873 → Narrow 0
  tiny a =
      shifted 0 t (omega arith) (omega arith) (lt_of_lt_of_le few (pow_mono (more t (omega arith)))) (inl refl)
      ∙ ap (λ (x : ℕ). cond s (2 ^ 31) 0 + min (0 * 2 ^ 23 + x) (255 * 2 ^ 23))
      (closest_zero (digits binary64 e d) (2 ^ t)
      (lt_of_lt_of_le (double (digits binary64 e d) few) (pow_mono {i = 54} (omega arith))))
    where
      t : ℕ
      t = 925 - (e - 1)

      double : (m : ℕ) → m < 2 ^ 53 → m * 2 < 2 ^ 54
      double m h = omega arith

  -- ---- a subnormal value, or the smallest normal one
  pub subnormal_digits : e < 897 → closest (2 ^ 52 + d) (2 ^ (926 - e)) ≤ 2 ^ 24
  subnormal_digits a = closest_le (2 ^ 52 + d) (2 ^ (926 - e)) (2 ^ 24) (pow_pos (926 - e))
      (room (2 ^ (926 - e)) (pow_mono {i = 29} (omega arith)))
    where
      room : (u : ℕ) → 2 ^ 29 ≤ u → 2 ^ 52 + d < 2 ^ 24 * u
      room u l = omega arith

  pub subnormal : 873 ≤ e → e < 897 → Narrow (closest (2 ^ 52 + d) (2 ^ (926 - e)))
  subnormal b a =
      shifted 0 (926 - e) (omega arith) (omega arith) (lt_of_lt_of_le few (pow_mono (more (926 - e) (omega arith))))
      (inl refl)
      ∙ ap (λ (x : ℕ). cond s (2 ^ 31) 0 + min (0 * 2 ^ 23 + closest x (2 ^ (926 - e))) (255 * 2 ^ 23))
      (lead (omega arith))
      ∙ ap (λ (x : ℕ). cond s (2 ^ 31) 0 + x) (omega (arith, subnormal_digits a))

  -- ---- a normal value, or an infinity
  pub normal_digits : closest (2 ^ 52 + d) (2 ^ 29) ≤ 2 ^ 24
  normal_digits = closest_le (2 ^ 52 + d) (2 ^ 29) (2 ^ 24) (pow_pos 29) wide

  pub normal : 897 ≤ e → e < 2048 → (e ≡ 2047 → d ≡ 0)
      → Narrow (min ((e - 897) * 2 ^ 23 + closest (2 ^ 52 + d) (2 ^ 29)) (255 * 2 ^ 23))
  normal b a n = go (eq-or-lt_of_le (omega arith))
    where
      go : (e ≡ 2047) ⊎ (e < 2047) → Narrow (min ((e - 897) * 2 ^ 23 + closest (2 ^ 52 + d) (2 ^ 29)) (255 * 2 ^ 23))
      go (inl i) =
          ap (λ (x : ℕ). to_bits binary32 (narrowed (of_fields binary64 s x d))) i
          ∙ ap (λ (x : ℕ). to_bits binary32 (narrowed (of_fields binary64 s 2047 x))) (n i)
          ∙ ap (λ (v : Float). to_bits binary32 (narrowed v)) (fields_inf binary64 s)
          ∙ ap (to_bits binary32) (rounded_inf binary32 s)
          ∙ to_bits_inf binary32 s
          ∙ ap (λ (x : ℕ). cond s (2 ^ 31) 0 + x) (omega arith)
      go (inr l) =
          shifted (e - 897) 29 l (omega arith) few (inr (le_trans (omega arith) (le_of_eq (sym (lead (omega arith))))))
          ∙ ap (λ (x : ℕ). cond s (2 ^ 31) 0 + min ((e - 897) * 2 ^ 23 + closest x (2 ^ 29)) (255 * 2 ^ 23))
          (lead (omega arith))

-- ---- the whole pattern, and the value
pub no_nan_fields : (b : ℕ) → T (not (nan_bits binary64 b)) → b % 2 ^ 63 / 2 ^ 52 ≡ 2047 → b % 2 ^ 52 ≡ 0
unfolding nan_bits
no_nan_fields b n e = go (eqb (b % 2 ^ 63 / 2 ^ 52) 2047) (eqb (b % 2 ^ 52) 0) (eq→eqb e) (eqb→eq (b % 2 ^ 52) 0) n
  where
    go : (x y : Bool) → T x → (T y → b % 2 ^ 52 ≡ 0) → T (not (x && not y)) → b % 2 ^ 52 ≡ 0
    go true true t z n = z tt
    go true false t z n = absurd n
    go false y t z n = absurd t

pub rounded_no_nan : (f : Format) (x : Float) → T (not (is_nan x)) → T (not (is_nan (rounded f x)))
unfolding rounded is_nan
rounded_no_nan f nan h = h
rounded_no_nan f (inf s) h = tt
rounded_no_nan f (fin s m e) h = round_no_nan f s (m * up e) (down e)

pub rounded_fits : (f : Format) (x : Float) → T (fits f (rounded f x))
unfolding rounded
rounded_fits f nan = nan-fits f
rounded_fits f (inf s) = inf-fits f s
rounded_fits f (fin s m e) = round-fits f s (m * up e) (down e)
