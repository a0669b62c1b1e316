-- The root of n units, as a whole number of units, against the exact one, by squares: within half a unit in its last
-- place (`half_unit`). Assumes nothing.
use Rattle.std.specs.Prelude.{◌≡◌, ◌⊎◌, ◌+◌, ◌-◌, ◌*◌, ◌/◌, ◌%◌, ◌^◌, ◌≤◌, ◌<◌}
use Rattle.lists.specs.Prelude.{refl, sym, ap, ◌∙◌, subst, inl, inr, ℕ, zero, suc, le_refl, le_trans, le_of_eq}
use Rattle.lists.specs.Prelude.{lt_of_lt_of_le, lt_of_le_of_lt, lt_of_not-le, lt_irrefl, zero-mul, mul-one, mul_assoc}
use Rattle.lists.specs.Prelude.{mul_left_comm, mul-mul-mul_comm, add-mul, mul-le-mul, mul-le-mul_right}
use Rattle.lists.specs.Prelude.{mul-lt-mul_of_pos_right, div-lt_iff_lt-mul, le-div_iff_mul-le, pow-succ'}
use Rattle.lists.specs.Prelude.{eq-zero-or-pos, eq_of_mul-eq-mul_right, one-mul, dec_le, arith, false, T, lit<, pow_pos}
use Rattle.lists.specs.Prelude.{pow-add, pow_mono, pow-lt, shl_lt, Format, binary32, binary64, prec, emax, low, size}
use Rattle.lists.specs.Prelude.{fits, hid}
use lib.Arith.{lt_of_le-ne}
use lib.Ieee.Digits.{size-lt, size-le, size_reaches}
use lib.Ieee.Fits.{two, reach}
use lib.Ieee.Exact.{HasValue, units_val}
use lib.Ieee.Scale.{overflow}
use Rattle.formats.proofs.Digits.{size_gt}
use Rattle.formats.proofs.Patterns.{twice_hid, units_fits}
use Rattle.formats.proofs.Grid.{Grid}
use Rattle.numbers.specs.Computed.{WholeRoot, whole_root, drops, root_units}
use Rattle.numbers.proofs.Squares.{four_square, four_pos, four_pow, whole_root_law, square_suc, square_lt}
use Rattle.numbers.proofs.Rooting.{root_digits, half_digits}

-- ---- the whole root r of M = 4 * a / 4 ^ k, for the k that the format drops

-- a has 2 * j - 1 or 2 * j digits
half_bounds : (a j : ℕ) → suc (size a) / 2 ≡ suc j → (4 ^ j ≤ a) × (a < 4 ^ suc j)
half_bounds a j e = (
  rw (four_pow j) (size_reaches a (j + j) (omega arith)),
  lt_of_lt_of_le (size-lt a)
      (rw (four_pow (suc j)) (pow_mono (omega arith))),
)

under_digits : (p a : ℕ) → p < suc (size a) / 2 → (4 ^ p ≤ 4 * a / 4 ^ drops p a) × (4 * a / 4 ^ drops p a < 4 ^ suc p)
under_digits p a h =
    let k = drops p a in
    let j = suc (size a) / 2 - 1 in
    let b = half_bounds a j (omega arith) in (
      (le-div_iff_mul-le (four_pos k)).1
          (le_trans (le_of_eq (sym (pow-add 4 p k) ∙ ap (λ (x : ℕ). 4 ^ x) (omega arith) ∙ pow-succ' 4 j))
          (omega (arith, b.0))),
      (div-lt_iff_lt-mul (four_pos k)).1
          (lt_of_lt_of_le (times_lt a (4 ^ suc j) b.1)
          (le_of_eq (sym (pow-succ' 4 (suc j)) ∙ ap (λ (x : ℕ). 4 ^ x) (sym (omega arith))
          ∙ pow-add 4 (suc p) k))),
    )
  where
    times_lt : (a x : ℕ) → a < x → 4 * a < 4 * x
    times_lt a x h = omega arith

-- (r * 2 ^ k) squared is at most 4 * a, and (r + 1) * 2 ^ k squared is above it
square_of : (r k : ℕ) → r * 2 ^ k * (r * 2 ^ k) ≡ r * r * 4 ^ k
square_of r k = mul-mul-mul_comm r (2 ^ k) r (2 ^ k) ∙ ap (λ (x : ℕ). r * r * x) (sym (four_square k))

squares : (a k r : ℕ) → WholeRoot (4 * a / 4 ^ k) r → (r * 2 ^ k * (r * 2 ^ k) ≤ 4 * a)
    × (4 * a < suc r * 2 ^ k * (suc r * 2 ^ k))
squares a k r h = (
  le_trans (le_of_eq (square_of r k)) ((le-div_iff_mul-le (four_pos k)).0 h.0),
  rw (square_of (suc r) k) ((div-lt_iff_lt-mul (four_pos k)).0 h.1),
)

-- a tie cannot happen: an odd r of more than p digits has a square that is odd and longer than any number of p digits
odd_square : (r : ℕ) → r % 2 ≡ 1 → r * r % 2 ≡ 1
odd_square r h =
    let q = r / 2 in
    let e : r ≡ suc (q + q) = omega arith in
    let s : suc (q + q) * suc (q + q) ≡ (q + q) * (q + q) + 2 * (q + q) + 1 = square_suc (q + q) in
    let d : (q + q) * (q + q) ≡ q * (q + q) + q * (q + q) = add-mul q q (q + q) in
    ap (λ (x : ℕ). x * x % 2) e ∙ (omega (arith, s ∙ ap (λ (x : ℕ). x + 2 * (q + q) + 1) d))

no_tie : (p r k c E : ℕ) → 2 ^ p ≤ r → r % 2 ≡ 1 → c < 2 ^ p → 0 < c → r * r * 2 ^ k ≡ c * 2 ^ E → ⊥
no_tie p r k c E lo o h C e = go (dec_le E k)
  where
    big : c < r * r
    big = lt_of_lt_of_le h
        (le_trans lo (le_trans (le_of_eq (sym (mul-one r))) (mul-le-mul (le_refl r) (le_trans (pow_pos p) lo))))

    go : Dec (E ≤ k) → ⊥
    go (yes l) = lt_irrefl (c * 2 ^ E)
        (lt_of_lt_of_le (mul-lt-mul_of_pos_right big (pow_pos E))
        (le_trans (mul-le-mul (le_refl (r * r)) (pow_mono l)) (le_of_eq e)))
    go (no n) =
        let d = E - suc k in
        let s : r * r * 2 ^ k ≡ c * 2 ^ suc d * 2 ^ k = e
        ∙ ap (λ (x : ℕ). c * x) (ap (λ (x : ℕ). 2 ^ x) (omega (arith, lt_of_not-le n)) ∙ pow-add 2 (suc d) k)
        ∙ sym (mul_assoc c (2 ^ suc d) (2 ^ k)) in
        omega (
          arith,
          eq_of_mul-eq-mul_right (2 ^ k) (pow_pos k) (r * r) (c * 2 ^ suc d) s
              ∙ ap (λ (x : ℕ). c * x) (pow-succ' 2 d) ∙ mul_left_comm c 2 (2 ^ d),
          odd_square r o,
        )

-- ---- the root of n units is q * 2 ^ k units, for a q of prec digits, or the next power of two: within half of 2 ^ k,
-- and not half of it either way

pub record HalfUnit (f : Format) (n : ℕ) : Type 0 where
  pub q : ℕ
  pub k : ℕ
  pub value : HasValue (root_units f n) false (q * 2 ^ k) (2 ^ low f)
  pub held : T (fits f (root_units f n))
  pub least : hid f ≤ q
  pub most : q ≤ 2 * hid f
  pub lower : (y : ℕ) → suc y ≡ 2 * q → y * 2 ^ k * (y * 2 ^ k) < 4 * (n * 2 ^ low f)
  pub upper : 4 * (n * 2 ^ low f) < suc (2 * q) * 2 ^ k * (suc (2 * q) * 2 ^ k)
  pub floor : q ≤ hid f → 2 * q * 2 ^ k * (2 * q * 2 ^ k) ≤ 4 * (n * 2 ^ low f)

long_enough : (f : Format) → prec f < suc (suc (low f)) / 2
long_enough binary32 = lit< tt
long_enough binary64 = lit< tt

module _ (f : Format) (n : ℕ) (g : Grid f n) (N : 0 < n) where
  has_digits : prec f < suc (size (n * 2 ^ low f)) / 2
  has_digits = lt_of_lt_of_le (long_enough f)
      (omega (
        arith,
        size_gt (n * 2 ^ low f) (low f)
            (le_trans (le_of_eq (sym (one-mul (2 ^ low f)))) (mul-le-mul_right (2 ^ low f) N)),
      ))

  in_range : prec f + drops (prec f) (n * 2 ^ low f) < low f + suc (emax f)
  in_range = omega (
    arith,
    size-le (n * 2 ^ low f) (low f + suc (emax f) + low f)
        (shl_lt (low f + suc (emax f)) (low f) g.room),
    two f,
    reach f,
  )

  tie_free : (r : ℕ) → 2 ^ prec f ≤ r → r % 2 ≡ 1 → r * 2 ^ drops (prec f)
      (n * 2 ^ low f) * (r * 2 ^ drops (prec f) (n * 2 ^ low f)) ≡ 4 * (n * 2 ^ low f) → ⊥
  tie_free r lo o e =
      let k = drops (prec f) (n * 2 ^ low f) in
      no_tie (prec f) r (k + k) g.c (2 + (g.i + low f)) lo o g.fit (c_pos (eq-zero-or-pos g.c))
      (ap (λ (x : ℕ). r * r * x) (sym (four_pow k)) ∙ sym (square_of r k) ∙ e
      ∙ ap (λ (x : ℕ). 4 * (x * 2 ^ low f)) g.is
      ∙ ap (λ (x : ℕ). 4 * x) (mul_assoc g.c (2 ^ g.i) (2 ^ low f)
      ∙ ap (λ (x : ℕ). g.c * x) (sym (pow-add 2 g.i (low f))))
      ∙ mul_left_comm 4 g.c (2 ^ (g.i + low f)) ∙ ap (λ (x : ℕ). g.c * x) (sym (pow-add 2 2 (g.i + low f))))
    where
      c_pos : (g.c ≡ 0) ⊎ (0 < g.c) → 0 < g.c
      c_pos (inr p) = p
      c_pos (inl z) = absurd
          (lt_irrefl 0 (subst (λ (x : ℕ). 0 < x) (g.is ∙ ap (λ (x : ℕ). x * 2 ^ g.i) z ∙ zero-mul (2 ^ g.i)) N))

  pub half_unit : HalfUnit f n
  unfolding root_units
  half_unit =
      let a = n * 2 ^ low f in
      let p = prec f in
      let k = drops p a in
      let M = 4 * a / 4 ^ k in
      let b = under_digits p a has_digits in
      let s = whole_root M in
      let u = 2 ^ k in
      let d = root_digits p M s b.0 b.1 (whole_root_law M) in
      let h = half_digits f s d in
      let sq = squares a k s (whole_root_law M) in
      record {
        q = suc s / 2;
        k = k;
        value = units_val f false (suc s / 2) k
            (lt_of_le_of_lt (mul-le-mul_right u (subst (λ (x : ℕ). suc s / 2 ≤ x) (sym (twice_hid f)) h.1))
            (subst (λ (x : ℕ). x < overflow f) (pow-add 2 p k) (pow-lt in_range)));
        held = units_fits f false (suc s / 2) k (subst (λ (x : ℕ). suc s / 2 ≤ x) (sym (twice_hid f)) h.1);
        least = h.0;
        most = h.1;
        lower = λ y e. down (4 * a) s y u sq.0 (tie_free s d.0) (pow_pos k) (s % 2) refl (omega arith) e;
        upper = lt_of_lt_of_le sq.1
            (let m : suc s * u ≤ suc (2 * (suc s / 2)) * u = mul-le-mul_right u (omega arith) in mul-le-mul m m);
        floor = λ l. le_trans (let m : 2 * (suc s / 2) * u ≤ s * u = mul-le-mul_right u
            (omega (arith, subst (λ (x : ℕ). x ≤ s) (twice_hid f) d.0)) in mul-le-mul m m) sq.0;
      }
    where
      down : (A s y u : ℕ) → s * u * (s * u) ≤ A → (s % 2 ≡ 1 → s * u * (s * u) ≡ A → ⊥) → 0 < u → (d : ℕ) → s % 2 ≡ d
          → d < 2 → suc y ≡ 2 * (suc s / 2) → y * u * (y * u) < A
      down A s y u le free U zero z b e = lt_of_lt_of_le
          (square_lt (y * u) (s * u) (mul-lt-mul_of_pos_right (omega arith) U)) le
      down A s y u le free U (suc d) z b e =
          let o : s % 2 ≡ 1 = omega arith in
          let same : y ≡ s = omega arith in
          subst (λ (t : ℕ). t * u * (t * u) < A) (sym same) (lt_of_le-ne le (free o))
