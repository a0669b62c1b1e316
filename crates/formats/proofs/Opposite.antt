-- A float and its opposite, but for the sign of a zero (`Opposite`). Comparing does not see that sign, and goes the
-- other way round (`lt_opposite`); products, sums and differences of opposites are opposites (`mul_opposite`,
-- `add_opposite`, `sub_opposite`). Assumes nothing.
use Rattle.std.specs.Prelude.{◌≡◌, ◌&&◌, ◌+◌, ◌-◌, ◌*◌, ◌<◌}
use Rattle.lists.specs.Prelude.{refl, sym, ap, ◌∙◌, Bool, true, false, not, bool_beq, cond, and-true, and-false, ℕ}
use Rattle.lists.specs.Prelude.{zero, suc, mul-pos, zero-add, le_of_lt, arith, lt-ltb, le-ltb, ltb, Float, nan, inf}
use Rattle.lists.specs.Prelude.{fin, Format, up, down, round, neg, sum, add, sub, mul, lt, below}
use lib.Ieee.Fits.{down_pos}
use Rattle.lists.proofs.Tests.{cond_cases, order_cases}
use Rattle.formats.proofs.Signs.{neg_neg, round_negated, lt_negated, mul_negated_right}
use Rattle.formats.specs.Zeros.{unsigned_zero, Opposite}
use Rattle.formats.proofs.Exchanged.{add_exchanged}
use Rattle.formats.proofs.Zeros.{zero_signs, zero_size, mul_unsigned, add_unsigned}

pub neg_opposite : (x : Float) → Opposite (neg x) x
neg_opposite x = refl

neg_unsigned : (x : Float) → unsigned_zero (neg x) ≡ unsigned_zero (neg (unsigned_zero x))
unfolding neg
neg_unsigned nan = refl
neg_unsigned (inf s) = refl
neg_unsigned (fin s zero e) = refl
neg_unsigned (fin s (suc m) e) = refl

opposite_negated : (x y : Float) → Opposite x y → Opposite (neg x) (neg y)
opposite_negated x y h = neg_unsigned x ∙ ap (λ (z : Float). unsigned_zero (neg z)) h ∙ sym (neg_unsigned (neg y))

opposite_of_negated : (x : Float) → Opposite x (neg x)
opposite_of_negated x = ap unsigned_zero (sym (neg_neg x))

-- ---- multiplying

module _ (f : Format) where
  pub mul_alike : (x x' y y' : Float) → unsigned_zero x ≡ unsigned_zero x' → unsigned_zero y ≡ unsigned_zero y'
      → unsigned_zero (mul f x y) ≡ unsigned_zero (mul f x' y')
  mul_alike x x' y y' h k = mul_unsigned f x y ∙ (λ i. unsigned_zero (mul f (h i) (k i))) ∙ sym (mul_unsigned f x' y')

  -- a factor that is opposite gives the opposite product
  pub mul_opposite : (k s s' : Float) → Opposite s' s → Opposite (mul f k s') (mul f k s)
  mul_opposite k s s' h = mul_alike k k s' (neg s) refl h ∙ ap unsigned_zero (mul_negated_right f k s)

-- ---- comparing

zero_below : (s t : Bool) (a b : ℕ) → a ≡ 0 → below s a t b ≡ below false a t b
zero_below false t a b z = refl
zero_below true false a b z =
    ap (λ (k : ℕ). ltb 0 (k + b)) z ∙ ap (ltb 0) (zero-add b) ∙ ap (λ (k : ℕ). ltb k b) (sym z)
zero_below true true a b z = le-ltb b a (omega arith)

lt_unsigned_first : (x y : Float) → lt x y ≡ lt (unsigned_zero x) y
unfolding lt
lt_unsigned_first nan y = refl
lt_unsigned_first (inf s) y = refl
lt_unsigned_first (fin s (suc m) e) y = refl
lt_unsigned_first (fin s zero e) nan = refl
lt_unsigned_first (fin s zero e) (inf t) = refl
lt_unsigned_first (fin s zero e) (fin t n d) = zero_below s t _ _ (zero_size (up e) (down d))

-- with the sign of a zero either way
lt_unsigned : (x y : Float) → lt x y ≡ lt (unsigned_zero x) (unsigned_zero y)
lt_unsigned x y =
    lt_unsigned_first x y
    ∙ sym (lt_negated y u)
    ∙ lt_unsigned_first (neg y) (neg u)
    ∙ ap (λ (z : Float). lt z (neg u)) (neg_unsigned y)
    ∙ sym (lt_unsigned_first (neg (unsigned_zero y)) (neg u))
    ∙ lt_negated (unsigned_zero y) u
  where
    u : Float
    u = unsigned_zero x

pub lt_opposite : (x x' y y' : Float) → Opposite x' x → Opposite y' y → lt x' y' ≡ lt y x
lt_opposite x x' y y' h k =
    lt_unsigned x' y' ∙ (λ i. lt (h i) (k i)) ∙ sym (lt_unsigned (neg x) (neg y)) ∙ lt_negated x y

-- ---- adding

-- two zeros
zeros_added : (f : Format) (s : Bool) (a : ℕ) (t : Bool) (b c : ℕ) → a ≡ 0 → b ≡ 0 → 0 < c
    → unsigned_zero (sum f s a t b c) ≡ unsigned_zero (round f false 0 c)
unfolding sum
zeros_added f s a t b c p q C =
    cond_cases Zero (bool_beq s t) (zero s (a + b) (omega arith))
    (cond_cases Zero (ltb a b) (zero t (b - a) (omega arith)) (zero (s && ltb b a) (a - b) (omega arith)))
  where
    Zero : Float → Type 0
    Zero x = unsigned_zero x ≡ unsigned_zero (round f false 0 c)

    zero : (s : Bool) (n : ℕ) → n ≡ 0 → unsigned_zero (round f s n c) ≡ unsigned_zero (round f false 0 c)
    zero s n e = zero_signs f s false n c e C ∙ ap (λ (k : ℕ). unsigned_zero (round f false k c)) e

module _ (f : Format) where
  add_unsigned_second : (x y : Float) → unsigned_zero (add f x y) ≡ unsigned_zero (add f x (unsigned_zero y))
  unfolding add
  add_unsigned_second x nan = refl
  add_unsigned_second x (inf t) = refl
  add_unsigned_second x (fin t (suc n) d) = refl
  add_unsigned_second nan (fin t zero d) = refl
  add_unsigned_second (inf s) (fin t zero d) = refl
  add_unsigned_second (fin s (suc m) e) (fin t zero d) =
      ap unsigned_zero (add_unsigned f (fin s (suc m) e) (fin t zero d) refl)
  add_unsigned_second (fin s zero e) (fin t zero d) = no_size s t ∙ sym (no_size s false)
    where
      no_size : (s t : Bool) → unsigned_zero (add f (fin s 0 e) (fin t 0 d))
          ≡ unsigned_zero (round f false 0 (down e * down d))
      no_size s t = zeros_added f s _ t _ _ (zero_size (up e) (down d)) (zero_size (up d) (down e))
          (mul-pos (down_pos e) (down_pos d))

  add_alike : (x y : Float) → unsigned_zero (add f x y) ≡ unsigned_zero (add f (unsigned_zero x) (unsigned_zero y))
  add_alike x y =
      let v = unsigned_zero y in
      add_unsigned_second x y
      ∙ ap unsigned_zero (add_exchanged f x v)
      ∙ add_unsigned_second v x
      ∙ ap unsigned_zero (add_exchanged f v (unsigned_zero x))

  difference_negated : (s : Bool) (a : ℕ) (t : Bool) (b c : ℕ) → 0 < c
      → unsigned_zero (cond (ltb a b) (round f (not t) (b - a) c) (round f (not s && ltb b a) (a - b) c))
      ≡ unsigned_zero (neg (cond (ltb a b) (round f t (b - a) c) (round f (s && ltb b a) (a - b) c)))
  difference_negated s a t b c C =
      order_cases a b (λ l. rw (lt-ltb a b l) (ap unsigned_zero (sym (round_negated f t (b - a) c))))
      (λ e.
      rw (le-ltb a b (omega arith), le-ltb b a (omega arith), and-false s, and-false (not s))
      (zero_signs f false true (a - b) c (omega arith) C ∙ ap unsigned_zero (sym (round_negated f false (a - b) c))))
      (λ l. rw (le-ltb a b (le_of_lt l), lt-ltb b a l, and-true s, and-true (not s))
      (ap unsigned_zero (sym (round_negated f s (a - b) c))))

  sum_negated : (s : Bool) (a : ℕ) (t : Bool) (b c : ℕ) → 0 < c
      → unsigned_zero (sum f (not s) a (not t) b c) ≡ unsigned_zero (neg (sum f s a t b c))
  unfolding sum
  sum_negated true a true b c C = ap unsigned_zero (sym (round_negated f true (a + b) c))
  sum_negated false a false b c C = ap unsigned_zero (sym (round_negated f false (a + b) c))
  sum_negated true a false b c C = difference_negated true a false b c C
  sum_negated false a true b c C = difference_negated false a true b c C

  add_negated : (x y : Float) → unsigned_zero (add f (neg x) (neg y)) ≡ unsigned_zero (neg (add f x y))
  unfolding add neg
  add_negated nan y = refl
  add_negated (inf s) nan = refl
  add_negated (inf true) (inf true) = refl
  add_negated (inf true) (inf false) = refl
  add_negated (inf false) (inf true) = refl
  add_negated (inf false) (inf false) = refl
  add_negated (inf s) (fin t n d) = refl
  add_negated (fin s m e) nan = refl
  add_negated (fin s m e) (inf t) = refl
  add_negated (fin s m e) (fin t n d) = sum_negated s _ t _ _ (mul-pos (down_pos e) (down_pos d))

  add_opposite : (x x' y y' : Float) → Opposite x' x → Opposite y' y → Opposite (add f x' y') (add f x y)
  add_opposite x x' y y' h k =
      add_alike x' y' ∙ (λ i. unsigned_zero (add f (h i) (k i))) ∙ sym (add_alike (neg x) (neg y)) ∙ add_negated x y

  pub sub_opposite : (x x' y y' : Float) → Opposite x' x → Opposite y' y → Opposite (sub f x' y') (sub f x y)
  unfolding sub
  sub_opposite x x' y y' h k = add_opposite x x' (neg y) (neg y') h (opposite_negated y' y k)

  -- a number on, and the opposite a number back
  pub on_opposite : (x x' c : Float) → Opposite x' x → Opposite (add f x' c) (sub f x c)
  unfolding sub
  on_opposite x x' c h = add_opposite x x' (neg c) c h (opposite_of_negated c)

  pub back_opposite : (x x' c : Float) → Opposite x' x → Opposite (sub f x' c) (add f x c)
  unfolding sub
  back_opposite x x' c h = add_opposite x x' c (neg c) h (neg_opposite c)
