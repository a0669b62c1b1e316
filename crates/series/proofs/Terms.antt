-- The sums, term by term: what is shown here of a sum holds because it holds of each term. The sum at another name of
-- the same number, the sum at -x, and each sum as a polynomial with whole coefficients over 28!, to which Bounds.antt
-- applies. Assumes nothing.
use Rattle.std.specs.Prelude.{◌≡◌, ◌&&◌, ◌∷◌, ◌*◌, ◌-◌, ◌/◌, ◌<◌}
use Rattle.lists.specs.Prelude.{refl, ap, ◌∙◌, subst, Bool, true, false, not, bool_beq, List, [], ℕ, zero, suc, zero-le}
use Rattle.lists.specs.Prelude.{mul-pos, sub-zero, zero-lt-suc, arith, T, eqb, eqb→eq, lit<}
use lib.Ieee.Fits.{and_l, and_r}
use Rattle.lists.specs.Tables.{every}
use Rattle.fractions.specs.Fraction.{Fraction, fraction, whole, opposite, ◌⊕◌, ◌⊗◌, ◌⊘◌, Same}
use Rattle.fractions.proofs.Restate.{opposite-⊗, ⊗-opposite, same_opposite, same_divide}
use Rattle.fractions.proofs.Order.{same_refl, same_trans, same_add, same_mul}
use Rattle.series.specs.Sums.{factorial, power, term, sine_sum, cosine_sum, Wave, sine, cosine, sum}
use Rattle.series.proofs.Wholes.{Whole, nought, more, less, ◌⊠◌, ◌·◌, by_parts}
use Rattle.series.proofs.Polynomials.{power_of, power_pos, further, power_further, value, add, times, value_none}
use Rattle.series.proofs.Polynomials.{value_add, value_times}

-- ---- a sum is its first term, and the others taken away and added in turn

-- x, or -x
abbrev pub flipped : Bool → Fraction → Fraction
flipped false x = x
flipped true x = opposite x

unfoldable pub in_turn : Fraction → Bool → Fraction → List ℕ → Fraction
in_turn x s a [] = a
in_turn x s a (j ∷ js) = in_turn x (not s) (a ⊕ flipped s (term x j)) js

unfoldable pub first : Wave → ℕ
first sine = 1
first cosine = 0

unfoldable pub others : Wave → List ℕ
others sine = 3 ∷ 5 ∷ 7 ∷ 9 ∷ 11 ∷ 13 ∷ 15 ∷ 17 ∷ 19 ∷ 21 ∷ 23 ∷ 25 ∷ 27 ∷ []
others cosine = 2 ∷ 4 ∷ 6 ∷ 8 ∷ 10 ∷ 12 ∷ 14 ∷ 16 ∷ 18 ∷ 20 ∷ 22 ∷ 24 ∷ 26 ∷ 28 ∷ []

pub sum_in_turn : (w : Wave) (x : Fraction) → sum w x ≡ in_turn x true (term x (first w)) (others w)
unfolding sine_sum cosine_sum in_turn first others
sum_in_turn sine x = refl
sum_in_turn cosine x = refl

-- ---- its denominator

power_over : (x : Fraction) (n : ℕ) → (power x n).over ≡ power_of x.over n
unfolding power power_of
power_over x zero = refl
power_over x (suc n) = ap (λ (t : ℕ). x.over * t) (power_over x n)

factorial_pos : (n : ℕ) → 0 < factorial n
unfolding factorial
factorial_pos zero = lit< tt
factorial_pos (suc n) = mul-pos (zero-lt-suc n) (factorial_pos n)

pub term_pos : (x : Fraction) → 0 < x.over → (n : ℕ) → 0 < (term x n).over
unfolding term
term_pos x X n = rw (sub-zero (factorial n), power_over x n) (mul-pos (power_pos x.over n X) (factorial_pos n))

pos_in_turn : (x : Fraction) → 0 < x.over → (s : Bool) (a : Fraction) → 0 < a.over → (js : List ℕ)
    → 0 < (in_turn x s a js).over
unfolding in_turn
pos_in_turn x X s a A [] = A
pos_in_turn x X s a A (j ∷ js) =
    pos_in_turn x X (not s) (a ⊕ flipped s (term x j)) (mul-pos A (flipped_pos s (term x j) (term_pos x X j))) js
  where
    flipped_pos : (s : Bool) (t : Fraction) → 0 < t.over → 0 < (flipped s t).over
    flipped_pos false t h = h
    flipped_pos true t h = h

pub sum_number : (w : Wave) (x : Fraction) → 0 < x.over → 0 < (sum w x).over
sum_number w x X = rw (sum_in_turn w x) (pos_in_turn x X true (term x (first w)) (term_pos x X (first w)) (others w))

-- ---- at another name of the same number

power_same : (x y : Fraction) → Same x y → (n : ℕ) → Same (power x n) (power y n)
unfolding power
power_same x y h zero = refl
power_same x y h (suc n) = same_mul x y (power x n) (power y n) h (power_same x y h n)

term_same : (x y : Fraction) → Same x y → (n : ℕ) → Same (term x n) (term y n)
unfolding term
term_same x y h n = let f = whole (factorial n) in same_divide (power x n) (power y n) f f zero-le zero-le
    (power_same x y h n) (same_refl f)

flipped_same : (s : Bool) (x y : Fraction) → Same x y → Same (flipped s x) (flipped s y)
flipped_same false x y h = h
flipped_same true x y h = same_opposite x y h

same_in_turn : (x y : Fraction) → Same x y → (s : Bool) (a b : Fraction) → Same a b → (js : List ℕ)
    → Same (in_turn x s a js) (in_turn y s b js)
unfolding in_turn
same_in_turn x y h s a b k [] = k
same_in_turn x y h s a b k (j ∷ js) =
    let t = flipped s (term x j) in
    let u = flipped s (term y j) in
    same_in_turn x y h (not s) (a ⊕ t) (b ⊕ u)
    (same_add a b t u k (flipped_same s (term x j) (term y j) (term_same x y h j))) js

pub sum_same : (w : Wave) (x y : Fraction) → Same x y → Same (sum w x) (sum w y)
sum_same w x y h = rw (sum_in_turn w x, sum_in_turn w y)
    (same_in_turn x y h true (term x (first w)) (term y (first w)) (term_same x y h (first w)) (others w))

-- ---- at -x

unfoldable odd : ℕ → Bool
odd zero = false
odd (suc n) = not (odd n)

flipped_times : (b : Bool) (x y : Fraction) → opposite x ⊗ flipped b y ≡ flipped (not b) (x ⊗ y)
flipped_times false x y = opposite-⊗ x y
flipped_times true x y = ⊗-opposite (opposite x) y ∙ ap opposite (opposite-⊗ x y)

power_opposite : (x : Fraction) (n : ℕ) → power (opposite x) n ≡ flipped (odd n) (power x n)
unfolding power odd
power_opposite x zero = refl
power_opposite x (suc n) = cc (power_opposite x n, flipped_times (odd n) x (power x n))

term_opposite : (x : Fraction) (n : ℕ) (b : Bool) → odd n ≡ b → term (opposite x) n ≡ flipped b (term x n)
unfolding term
term_opposite x n b e = ap (λ (y : Fraction). y ⊘ whole (factorial n))
    (power_opposite x n ∙ ap (λ (c : Bool). flipped c (power x n)) e) ∙ divided b (power x n)
  where
    divided : (b : Bool) (y : Fraction) → flipped b y ⊘ whole (factorial n) ≡ flipped b (y ⊘ whole (factorial n))
    divided false y = refl
    divided true y = refl

flipped_add : (b s : Bool) (a t : Fraction) → flipped b a ⊕ flipped s (flipped b t) ≡ flipped b (a ⊕ flipped s t)
flipped_add false s a t = refl
flipped_add true false a t = refl
flipped_add true true a t = refl

alike : Bool → ℕ → Bool
alike b j = bool_beq (odd j) b

alike_is : (a b : Bool) → T (bool_beq a b) → a ≡ b
alike_is true true h = refl
alike_is true false h = absurd h
alike_is false true h = absurd h
alike_is false false h = refl

opposite_in_turn : (x : Fraction) (b s : Bool) (a : Fraction) (js : List ℕ) → T (every (alike b) js)
    → in_turn (opposite x) s (flipped b a) js ≡ flipped b (in_turn x s a js)
unfolding in_turn alike
opposite_in_turn x b s a [] h = refl
opposite_in_turn x b s a (j ∷ js) h = cc (
  term_opposite x j b (alike_is (odd j) b (and_l (alike b j) (every (alike b) js) h)),
  flipped_add b s a (term x j),
  opposite_in_turn x b (not s) (a ⊕ flipped s (term x j)) js
      (and_r (alike b j) (every (alike b) js) h),
)

-- what -x makes of a sine, and of a cosine
abbrev pub mirrored : Wave → Fraction → Fraction
mirrored sine x = opposite x
mirrored cosine x = x

opposite_sum : (w : Wave) (b : Bool) (x : Fraction) → odd (first w) ≡ b → T (every (alike b) (others w))
    → sum w (opposite x) ≡ flipped b (sum w x)
opposite_sum w b x e h = cc (
  sum_in_turn w (opposite x),
  term_opposite x (first w) b e,
  opposite_in_turn x b true (term x (first w)) (others w) h,
  sum_in_turn w x,
)

pub sum_opposite : (w : Wave) (x : Fraction) → sum w (opposite x) ≡ mirrored w (sum w x)
unfolding first others odd alike
sum_opposite sine x = opposite_sum sine true x refl tt
sum_opposite cosine x = opposite_sum cosine false x refl tt

-- ---- as polynomials with whole coefficients, over 28!

unfoldable pub common : ℕ
common = factorial 28

-- c x ^ j
unfoldable pub monomial : ℕ → Whole → List Whole
monomial zero c = c ∷ []
monomial (suc j) c = nought ∷ monomial j c

-- x ^ j / j!, over 28!
unfoldable pub share : ℕ → List Whole
share j = monomial j (more (common / factorial j))

abbrev sign : Bool → Whole
sign false = more 1
sign true = less 1

unfoldable pub gathered : Bool → List Whole → List ℕ → List Whole
gathered s us [] = us
gathered s us (j ∷ js) = gathered (not s) (add us (times (sign s) (share j))) js

unfoldable pub coefficients : Wave → List Whole
coefficients w = gathered true (share (first w)) (others w)

-- v / d, and back
abbrev pub quotient : Whole → ℕ → Fraction
quotient v d = fraction v.plus v.minus d

abbrev pub numerator : Fraction → Whole
numerator x = record { plus = x.plus; minus = x.minus }

value_monomial : (x : Fraction) (j m : ℕ) (c : Whole) → value (further j (suc m)) (monomial j c) (numerator x) x.over
    ≡ numerator (power x j) ⊠ (power_of x.over (suc m) · c)
unfolding value further monomial power
value_monomial x zero m c = rw (value_none (numerator x) x.over m) (by_parts (omega arith) (omega arith))
value_monomial x (suc j) m c = rw (value_monomial x j m c) (by_parts (omega arith) (omega arith))

-- what a polynomial over 28! is at x, as a fraction
unfoldable pub valued : List Whole → Fraction → Fraction
valued us x = quotient (value 29 us (numerator x) x.over) (common * power_of x.over 29)

-- an exponent whose power the sums have room for, and whose factorial divides 28!
apt : ℕ → Bool
apt j = eqb (further j (suc (28 - j))) 29 && eqb (common / factorial j * factorial j) common

first_apt : (w : Wave) → T (apt (first w))
unfolding apt first further common factorial
first_apt sine = tt
first_apt cosine = tt

others_apt : (w : Wave) → T (every apt (others w))
unfolding apt others further common factorial
others_apt sine = tt
others_apt cosine = tt

pub common_pos : 0 < common
unfolding common factorial
common_pos = lit< tt

module _ (x : Fraction) (X : 0 < x.over) where
  pub valued_pos : (us : List Whole) → 0 < (valued us x).over
  unfolding valued
  valued_pos us = mul-pos common_pos (power_pos x.over 29 X)

  term_value : (j m c : ℕ) → c * factorial j ≡ common → Same (term x j)
      (quotient (value (further j (suc m)) (monomial j (more c)) (numerator x) x.over)
      (common * power_of x.over (further j (suc m))))
  unfolding term
  term_value j m c e =
      rw (
        value_monomial x j m (more c),
        power_further x.over j (suc m),
        power_over x j,
        sub-zero (factorial j),
        ← e,
      )
      (omega arith)

  term_valued : (j : ℕ) → T (apt j) → Same (term x j) (valued (share j) x)
  unfolding valued share apt
  term_valued j h =
      let a = eqb (further j (suc (28 - j))) 29 in
      let b = eqb (common / factorial j * factorial j) common in
      let c = common / factorial j in
      subst (λ (n : ℕ). Same (term x j)
      (quotient (value n (monomial j (more c)) (numerator x) x.over) (common * power_of x.over n)))
      (eqb→eq (further j (suc (28 - j))) 29 (and_l a b h))
      (term_value j (28 - j) c (eqb→eq (c * factorial j) common (and_r a b h)))

  added_valued : (a b : Fraction) (us vs : List Whole) → Same a (valued us x) → Same b (valued vs x)
      → Same (a ⊕ b) (valued (add us vs) x)
  unfolding valued
  added_valued a b us vs h k =
      let u = value 29 us (numerator x) x.over in
      let v = value 29 vs (numerator x) x.over in
      let N = common * power_of x.over 29 in
      same_trans (a ⊕ b) (quotient u N ⊕ quotient v N) (quotient (value 29 (add us vs) (numerator x) x.over) N)
      (mul-pos (valued_pos us) (valued_pos vs)) (same_add a (quotient u N) b (quotient v N) h k)
      (rw (value_add (numerator x) x.over 29 us vs) (omega arith))

  flipped_valued : (s : Bool) (b : Fraction) (vs : List Whole) → Same b (valued vs x)
      → Same (flipped s b) (valued (times (sign s) vs) x)
  unfolding valued
  flipped_valued false b vs k = rw (value_times (numerator x) x.over 29 (more 1) vs) (omega arith)
  flipped_valued true b vs k =
      let v = value 29 vs (numerator x) x.over in
      rw (value_times (numerator x) x.over 29 (less 1) vs) (omega arith)

  valued_in_turn : (s : Bool) (a : Fraction) (us : List Whole) (js : List ℕ) → Same a (valued us x) → T (every apt js)
      → Same (in_turn x s a js) (valued (gathered s us js) x)
  unfolding in_turn gathered
  valued_in_turn s a us [] h k = h
  valued_in_turn s a us (j ∷ js) h k =
      let c = times (sign s) (share j) in
      valued_in_turn (not s) (a ⊕ flipped s (term x j)) (add us c) js
      (added_valued a (flipped s (term x j)) us c h
      (flipped_valued s (term x j) (share j) (term_valued j (and_l (apt j) (every apt js) k))))
      (and_r (apt j) (every apt js) k)

  pub sum_valued : (w : Wave) → Same (sum w x) (valued (coefficients w) x)
  unfolding coefficients
  sum_valued w = rw (sum_in_turn w x)
      (valued_in_turn true (term x (first w)) (share (first w)) (others w) (term_valued (first w) (first_apt w))
      (others_apt w))
