-- Signs of zeros in one operation, in any format. A product is the same but for the sign of a zero (`mul_unsigned`);
-- what is added to a number that is no -0.0 may be a zero of either sign (`add_unsigned`); and such a sum of two
-- numbers of the format is no -0.0 (`sum_unsigned`): it is a whole number of the format's smallest values, so it rounds
-- to a zero only where it is one. Assumes nothing.
use Rattle.std.specs.Prelude.{◌≡◌, ◌&&◌, ◌+◌, ◌-◌, ◌*◌, ◌^◌, ◌≤◌, ◌<◌}
use Rattle.lists.specs.Prelude.{refl, sym, ap, ◌∙◌, subst, Bool, true, false, bool_beq, true≢false, ℕ, zero, suc}
use Rattle.lists.specs.Prelude.{zero-lt-suc, le_of_lt, zero-mul, mul_assoc, mul_comm, mul_right_comm, mul-pos, mul-sub}
use Rattle.lists.specs.Prelude.{mul-le-mul_right, le_trans, le_of_eq, one-mul, arith, lt-ltb, le-ltb, ltb-true, ℤ, pos}
use Rattle.lists.specs.Prelude.{T, ltb, lit<, pow_pos, pow-lt, Float, nan, inf, fin, Format, binary32, binary64, prec}
use Rattle.lists.specs.Prelude.{emax, low, up, down, unlike, size, span, climb, odd, units, round, neg, sum, add, mul}
use Rattle.lists.specs.Prelude.{fits}
use lib.Ieee.Fits.{up_pos, down_pos, round_is}
use lib.Ieee.Exact.{HasValue, round_exact}
use lib.Ieee.Scale.{round_same}
use lib.Ieee.Order.{round_mono}
use lib.Ieee.Positive.{above, positive_of_value, above_of_le, first_pos}
use Rattle.lists.proofs.Tests.{cond_cases, by_less}
use Rattle.formats.proofs.Patterns.{some_digits}
use Rattle.formats.proofs.Grid.{held_units}
use Rattle.formats.proofs.Signs.{round_negated}
use Rattle.formats.specs.Zeros.{unsigned_zero}
use Rattle.formats.proofs.Exchanged.{mul_exchanged}

-- ---- a zero that has no sign

-- x is no -0.0
abbrev pub Unsigned : Float → Type 0
Unsigned x = unsigned_zero x ≡ x

unsigned_positive : (m : ℕ) (e : ℤ) → Unsigned (fin false m e)
unsigned_positive zero e = refl
unsigned_positive (suc m) e = refl

pub unsigned_twice : (x : Float) → Unsigned (unsigned_zero x)
unsigned_twice nan = refl
unsigned_twice (inf s) = refl
unsigned_twice (fin s zero e) = refl
unsigned_twice (fin s (suc m) e) = refl

-- ---- what is rounded

pub zero_rounded : (f : Format) (s : Bool) (c : ℕ) → 0 < c → round f s 0 c ≡ fin s 0 (pos 0)
unfolding round size span climb units odd
zero_rounded binary32 s c h = round_same binary32 s 0 c 0 1 h (lit< tt) (sym (zero-mul c))
zero_rounded binary64 s c h = round_same binary64 s 0 c 0 1 h (lit< tt) (sym (zero-mul c))

odd_unsigned : (d q k l : ℕ) → Unsigned (odd d false q k l)
unfolding odd
odd_unsigned d zero k l = refl
odd_unsigned d (suc q) k l = unsigned_positive _ _

units_unsigned : (f : Format) (q k : ℕ) → Unsigned (units f false q k)
unfolding units
units_unsigned f q k =
    cond_cases Unsigned (ltb (q * 2 ^ k) (2 ^ (low f + suc (emax f)))) (odd_unsigned (suc (prec f)) q k (low f)) refl

positive_unsigned : (f : Format) (n c : ℕ) → Unsigned (round f false n c)
positive_unsigned f n c = subst Unsigned (sym (round_is f false n c)) (units_unsigned f _ _)

above_unsigned : (x : Float) → T (above x) → Unsigned (neg x)
unfolding neg
above_unsigned nan t = refl
above_unsigned (inf s) t = refl
above_unsigned (fin true m e) t = absurd t
above_unsigned (fin false zero e) t = absurd t
above_unsigned (fin false (suc m) e) t = refl

-- one unit and more does not round to a zero
units_above : (f : Format) (n c : ℕ) → 0 < c → c ≤ n * 2 ^ low f → T (above (round f false n c))
units_above f n c C h =
    let one = round f false 1 (2 ^ low f) in
    let v : HasValue one false 1 (2 ^ low f) = round_exact f false 1 (2 ^ low f) 1 0 (pow_pos (low f))
    (pow-lt {i = 0} (some_digits f)) (pow-lt {i = 0} (omega arith)) refl in
    above_of_le one (round f false n c) (positive_of_value one 1 (2 ^ low f) v (zero-lt-suc 0))
    (round_mono f 1 (2 ^ low f) n c (pow_pos (low f)) C (le_trans (le_of_eq (one-mul c)) h))

-- a whole number of the format's smallest values, above 0 if it is below zero
round_unsigned : (f : Format) (s : Bool) (n c w : ℕ) → 0 < c → n * 2 ^ low f ≡ w * c → (s ≡ true → 0 < n)
    → Unsigned (round f s n c)
round_unsigned f false n c w C e h = positive_unsigned f n c
round_unsigned f true n c w C e h =
    let W : 0 < w = first_pos w c (subst (λ (k : ℕ). 0 < k) e (mul-pos (h refl) (pow_pos (low f)))) in
    subst Unsigned (round_negated f false n c)
    (above_unsigned (round f false n c)
    (units_above f n c C (le_trans (le_of_eq (sym (one-mul c)))
    (le_trans (mul-le-mul_right c W) (le_of_eq (sym e))))))

-- ---- products

pub zero_size : (a b : ℕ) → 0 * a * b ≡ 0
zero_size a b = ap (λ (k : ℕ). k * b) (zero-mul a) ∙ zero-mul b

pub zero_signs : (f : Format) (s t : Bool) (n c : ℕ) → n ≡ 0 → 0 < c
    → unsigned_zero (round f s n c) ≡ unsigned_zero (round f t n c)
zero_signs f s t n c z C =
    ap (λ (k : ℕ). unsigned_zero (round f s k c)) z
    ∙ ap unsigned_zero (zero_rounded f s c C)
    ∙ sym (ap (λ (k : ℕ). unsigned_zero (round f t k c)) z ∙ ap unsigned_zero (zero_rounded f t c C))

module _ (f : Format) where
  mul_unsigned_first : (x y : Float) → unsigned_zero (mul f x y) ≡ unsigned_zero (mul f (unsigned_zero x) y)
  unfolding mul
  mul_unsigned_first nan y = refl
  mul_unsigned_first (inf s) y = refl
  mul_unsigned_first (fin s (suc m) e) y = refl
  mul_unsigned_first (fin s zero e) nan = refl
  mul_unsigned_first (fin s zero e) (inf t) = refl
  mul_unsigned_first (fin s zero e) (fin t n d) =
      zero_signs f (unlike s t) (unlike false t) _ _ (zero_size (up e) (n * up d)) (mul-pos (down_pos e) (down_pos d))

  pub mul_unsigned : (x y : Float) → unsigned_zero (mul f x y)
      ≡ unsigned_zero (mul f (unsigned_zero x) (unsigned_zero y))
  mul_unsigned x y =
      let u = unsigned_zero x in
      mul_unsigned_first x y
      ∙ ap unsigned_zero (mul_exchanged f u y)
      ∙ mul_unsigned_first y u
      ∙ ap unsigned_zero (mul_exchanged f (unsigned_zero y) u)

-- ---- sums

-- what a zero is added to is rounded, if it is no -0.0
pub zero_added : (f : Format) (s : Bool) (a : ℕ) (t : Bool) (b c : ℕ) → b ≡ 0 → (s ≡ true → 0 < a)
    → sum f s a t b c ≡ round f s a c
unfolding sum
zero_added f true a true b c z h = ap (λ (k : ℕ). round f true k c) (omega arith)
zero_added f false a false b c z h = ap (λ (k : ℕ). round f false k c) (omega arith)
zero_added f true a false b c z h =
    let l : b < a = omega (arith, h refl) in
    rw (le-ltb a b (le_of_lt l), lt-ltb b a l) (ap (λ (k : ℕ). round f true k c) (omega arith))
zero_added f false a true b c z h = rw (le-ltb a b (omega arith)) (ap (λ (k : ℕ). round f false k c) (omega arith))

difference_whole : (a b c v w l : ℕ) → a * l ≡ v * c → b * l ≡ w * c → (a - b) * l ≡ (v - w) * c
difference_whole a b c v w l p q =
    mul_comm (a - b) l
    ∙ mul-sub l a b
    ∙ (λ i. (mul_comm l a ∙ p ∙ mul_comm v c) i - (mul_comm l b ∙ q ∙ mul_comm w c) i)
    ∙ sym (mul_comm (v - w) c ∙ mul-sub c v w)

-- a / c is w units, and the same over c * d or d * c
over_both : (a w c d l : ℕ) → a * l ≡ w * c → a * d * l ≡ w * (c * d)
over_both a w c d l h = mul_right_comm a d l ∙ ap (λ (k : ℕ). k * d) h ∙ mul_assoc w c d

and_second : (a b : Bool) → (a && b) ≡ true → b ≡ true
and_second true b e = e
and_second false b e = absurd (true≢false (sym e))

-- what is no -0.0 is above 0 if it is below zero
pub size_above : (s : Bool) (m : ℕ) (e d : ℤ) → Unsigned (fin s m e) → s ≡ true → 0 < m * up e * down d
size_above true zero e d p q = let z : ◌≡◌ {A = ℕ} 0 1 = cc in omega arith
size_above false zero e d p q = let z : ◌≡◌ {A = ℕ} 0 1 = cc in omega arith
size_above s (suc m) e d p q = mul-pos (mul-pos (zero-lt-suc m) (up_pos e)) (down_pos d)

module _ (f : Format) where
  pub add_unsigned : (x y : Float) → Unsigned x → add f x y ≡ add f x (unsigned_zero y)
  unfolding add
  add_unsigned x nan p = refl
  add_unsigned x (inf t) p = refl
  add_unsigned x (fin t (suc n) d) p = refl
  add_unsigned nan (fin t zero d) p = refl
  add_unsigned (inf s) (fin t zero d) p = refl
  add_unsigned (fin s m e) (fin t zero d) p =
      let h = size_above s m e d p in
      let z = zero_size (up d) (down e) in
      zero_added f s _ t _ _ z h ∙ sym (zero_added f s _ false _ _ z h)

  -- a whole number of the format's smallest values with another added
  sum_whole : (s : Bool) (a : ℕ) (t : Bool) (b c v w : ℕ) → 0 < c → a * 2 ^ low f ≡ v * c → b * 2 ^ low f ≡ w * c
      → (s ≡ true → 0 < a)
      → Unsigned (sum f s a t b c)
  unfolding sum
  sum_whole s a t b c v w C p q h =
      cond_cases Unsigned (bool_beq s t) (round_unsigned f s (a + b) c (v + w) C (omega arith)
      (λ e. omega (arith, h e)))
      (by_less Unsigned a b (λ l. round_unsigned f t (b - a) c (w - v) C (difference_whole b a c w v (2 ^ low f) q p)
      (λ e. omega arith))
      (λ l. round_unsigned f (s && ltb b a) (a - b) c (v - w) C (difference_whole a b c v w (2 ^ low f) p q)
      (λ e. omega (arith, ltb-true b a (and_second s (ltb b a) e)))))

  pub sum_unsigned : (x y : Float) → Unsigned x → T (fits f x) → T (fits f y) → Unsigned (add f x y)
  unfolding add
  sum_unsigned nan y p h k = refl
  sum_unsigned (inf s) nan p h k = refl
  sum_unsigned (inf s) (inf t) p h k = cond_cases Unsigned (bool_beq s t) refl refl
  sum_unsigned (inf s) (fin t n d) p h k = refl
  sum_unsigned (fin s m e) nan p h k = refl
  sum_unsigned (fin s m e) (inf t) p h k = refl
  sum_unsigned (fin s m e) (fin t n d) p h k =
      let u = held_units f s m e h in
      let v = held_units f t n d k in
      sum_whole s _ t _ _ u.w v.w (mul-pos (down_pos e) (down_pos d))
      (over_both (m * up e) u.w (down e) (down d) (2 ^ low f) u.value.1)
      (over_both (n * up d) v.w (down d) (down e) (2 ^ low f) v.value.1
      ∙ ap (λ (c : ℕ). v.w * c) (mul_comm (down d) (down e)))
      (size_above s m e d p)
