-- The sums as a program evaluates them: x (1 - x^2 / (2 3) (1 - x^2 / (4 5) (1 - ...))), and so for the cosine. Assumes
-- nothing.
use Rattle.std.specs.Prelude.{◌≡◌, ◌∷◌, ◌+◌, ◌*◌, ◌-◌, ◌<◌}
use Rattle.lists.specs.Prelude.{refl, sym, ap, ◌∙◌, subst, Bool, true, false, not, List, [], ℕ, zero, suc, mul-pos}
use Rattle.lists.specs.Prelude.{sub-zero, add-one, add-two, arith, lit<}
use Rattle.fractions.specs.Fraction.{Fraction, whole, square, ◌⊕◌, ◌⊖◌, ◌⊗◌, ◌⊘◌, Same}
use Rattle.fractions.proofs.Order.{same_refl, same_trans}
use Rattle.fractions.proofs.Restate.{equal, equal_same, over_one, same_sub, ⊕-assoc, ⊗-assoc, ⊗-comm, ⊗-one, one-⊗}
use Rattle.fractions.proofs.Restate.{⊗-over}
use Rattle.series.specs.Sums.{factorial, power, term, Wave, sine, cosine, sum}
use Rattle.series.proofs.Terms.{flipped, in_turn, first, others, sum_in_turn, term_pos}

-- 1 - y / ((j + 1) (j + 2)) (1 - y / ((j + 3) (j + 4)) (1 - ...)), n times
unfoldable pub nested : Fraction → ℕ → ℕ → Fraction
nested y j zero = whole 1
nested y j (suc n) = whole 1 ⊖ y ⊗ nested y (j + 2) n ⊘ whole ((j + 1) * (j + 2))

-- ---- each sum is a term less the sum of what follows

unfoldable tail : Fraction → ℕ → ℕ → Fraction
tail x j zero = term x j
tail x j (suc n) = term x j ⊖ tail x (j + 2) n

unfoldable from : ℕ → ℕ → List ℕ
from j zero = j ∷ []
from j (suc n) = j ∷ from (j + 2) n

flipped_sub : (s : Bool) (t u : Fraction) → flipped s t ⊕ flipped (not s) u ≡ flipped s (t ⊖ u)
flipped_sub false t u = refl
flipped_sub true t u = refl

tail_in_turn : (x : Fraction) (n j : ℕ) (s : Bool) (a : Fraction)
    → in_turn x s a (from j n) ≡ a ⊕ flipped s (tail x j n)
unfolding in_turn from tail
tail_in_turn x zero j s a = refl
tail_in_turn x (suc n) j s a = cc (
  tail_in_turn x n (j + 2) (not s) (a ⊕ flipped s (term x j)),
  ⊕-assoc a (flipped s (term x j)) (flipped (not s) (tail x (j + 2) n)),
  flipped_sub s (term x j) (tail x (j + 2) n),
)

-- how many terms follow the first
abbrev following : Wave → ℕ
following sine = 13
following cosine = 14

sum_tail : (w : Wave) (x : Fraction) → sum w x ≡ tail x (first w) (following w)
unfolding first others from tail
sum_tail sine x = sum_in_turn sine x ∙ tail_in_turn x 12 3 true (term x 1)
sum_tail cosine x = sum_in_turn cosine x ∙ tail_in_turn x 13 2 true (term x 0)

-- ---- two exponents on the term is x^2 / ((j + 1) (j + 2)) times as large

over_nat : (xo po f i k : ℕ) → xo * (xo * po) * (k * (i * f)) ≡ po * f * (xo * xo * (i * k))
over_nat xo po f i k = omega arith

term_two : (x : Fraction) (j : ℕ) → term x (j + 2) ≡ term x j ⊗ (square x ⊘ whole ((j + 1) * (j + 2)))
unfolding term power factorial
term_two x j =
    let p = power x j in
    rw (add-two, add-one)
    (equal (omega arith) (omega arith)
    (rw (sub-zero (suc (suc j) * (suc j * factorial j)), sub-zero (factorial j), sub-zero (suc j * suc (suc j)))
    (over_nat x.over p.over (factorial j) (suc j) (suc (suc j)))))

-- ---- so the term can be taken out of the sum

nested_pos : (y : Fraction) → 0 < y.over → (n j : ℕ) → 0 < (nested y j n).over
unfolding nested
nested_pos y Y zero j = lit< tt
nested_pos y Y (suc n) j = mul-pos {m = 1} (lit< tt) (mul-pos (mul-pos Y (nested_pos y Y n (j + 2))) (divisor j))
  where
    divisor : (j : ℕ) → 0 < (j + 1) * (j + 2) - 0
    divisor j = rw (sub-zero ((j + 1) * (j + 2))) (mul-pos {m = j + 1} {n = j + 2} (omega arith) (omega arith))

-- t Y B is t (y B / c), with Y for y / c
regrouped : (t y b c : Fraction) → t ⊗ (y ⊘ c) ⊗ b ≡ t ⊗ (y ⊗ b ⊘ c)
regrouped t y b c = cc (⊗-assoc t (y ⊘ c) b, ⊗-comm (y ⊘ c) b, ⊗-over b y c, ⊗-comm b y)

taken_out : (t z : Fraction) → Same (t ⊖ t ⊗ z) (t ⊗ (whole 1 ⊖ z))
taken_out t z = omega arith

module _ (x : Fraction) (X : 0 < x.over) where
  tail_nested : (n j : ℕ) → Same (tail x j n) (term x j ⊗ nested (square x) j n)
  unfolding tail nested
  tail_nested zero j = equal_same (sym (⊗-one (term x j)))
  tail_nested (suc n) j =
      let t = term x j in
      let y = square x in
      let b = nested y (j + 2) n in
      let c = whole ((j + 1) * (j + 2)) in
      let z = y ⊗ b ⊘ c in
      let B = nested_pos y (mul-pos X X) n (j + 2) in
      let T = term_pos x X in
      let e : term x (j + 2) ⊗ b ≡ t ⊗ z = ap (λ (u : Fraction). u ⊗ b) (term_two x j) ∙ regrouped t y b c in
      same_trans (t ⊖ tail x (j + 2) n) (t ⊖ term x (j + 2) ⊗ b) (t ⊗ (whole 1 ⊖ z))
      (mul-pos (T j) (mul-pos (T (j + 2)) B))
      (same_sub t t (tail x (j + 2) n) (term x (j + 2) ⊗ b) (same_refl t) (tail_nested n (j + 2)))
      (subst (λ (u : Fraction). Same (t ⊖ u) (t ⊗ (whole 1 ⊖ z))) (sym e) (taken_out t z))

  term_one : term x 1 ≡ x
  unfolding term power factorial
  term_one = over_one (x ⊗ whole 1) ∙ ⊗-one x

  term_zero : term x 0 ≡ whole 1
  unfolding term power factorial
  term_zero = refl

  pub sine_nested : Same (sum sine x) (x ⊗ nested (square x) 1 13)
  unfolding first
  sine_nested = rw (sum_tail sine x)
      (subst (λ (t : Fraction). Same (tail x 1 13) (t ⊗ nested (square x) 1 13)) term_one (tail_nested 13 1))

  pub cosine_nested : Same (sum cosine x) (nested (square x) 0 14)
  unfolding first
  cosine_nested = rw (sum_tail cosine x)
      (subst (λ (t : Fraction). Same (tail x 0 14) t)
      (ap (λ (t : Fraction). t ⊗ nested (square x) 0 14) term_zero ∙ one-⊗ (nested (square x) 0 14))
      (tail_nested 14 0))
