-- Each weighted coefficient is within 2 ^ -41 of document 01's formula: a coefficient of `harmonics`, 2 ^ -42 from its
-- formula and 5 in magnitude at most, times a power of a cosine that is 2 ^ -54 from the series. Assumes nothing.
use Rattle.std.specs.Prelude.{◌≡◌, ◌+◌, ◌≤◌, ◌<◌}
use Rattle.lists.specs.Prelude.{refl, sym, ap, ◌∙◌, subst₂, false, ℕ, zero, suc, arith, T, Float, binary64, mul, round}
use Rattle.fractions.specs.Fraction.{Fraction, number, whole, ◌⊗◌, Within, EachWithin}
use Rattle.fractions.proofs.Approximates.{Approximates}
use Rattle.fractions.proofs.Restate.{⊗-one, ⊗-comm}
use Rattle.fractions.proofs.Expression.{Expression, held, ◌*'◌, run, exact, passes, within, value}
use Rattle.series.specs.Sums.{power}
use Rattle.lists.specs.Tables.{tab}
use Rattle.virtual_speaker.specs.Computed.{weight}

-- ---- the powers of c, in the program's order and in document 01's
module _ {x : Float} {q : Fraction} (k : Approximates 54 (whole 1) x q) where
  abbrev powers : ℕ → Expression
  powers zero = held false 1 0
  powers (suc zero) = value k
  powers (suc (suc l)) = powers (suc l) *' value k

  run_is : (l : ℕ) → run binary64 (powers l) ≡ weight x l
  unfolding round
  run_is zero = refl
  run_is (suc zero) = refl
  run_is (suc (suc l)) = ap (λ (y : Float). mul binary64 y x) (run_is (suc l))

  exact_is : (l : ℕ) → exact (powers l) ≡ power q l
  unfolding power
  exact_is zero = refl
  exact_is (suc zero) = sym (⊗-one q)
  exact_is (suc (suc l)) = ap (λ (y : Fraction). y ⊗ q) (exact_is (suc l)) ∙ ⊗-comm (power q (suc l)) q

  -- ---- a coefficient times one of them
  module _ {y : Float} {r : Fraction} (h : Approximates 42 (whole 5) y r) where
    product : (l : ℕ) → T (passes binary64 41 (value h *' powers l))
        → Within 41 (number (mul binary64 y (weight x l))) (r ⊗ power q l)
    product l t = subst₂ (λ (z : Float) (s : Fraction). Within 41 (number (mul binary64 y z)) (r ⊗ s)) (run_is l)
        (exact_is l) (within binary64 41 (value h *' powers l) t)

    pub weighted_near : (l : ℕ) → l ≤ 3 → Within 41 (number (mul binary64 y (weight x l))) (r ⊗ power q l)
    weighted_near zero l = product zero tt
    weighted_near (suc zero) l = product 1 tt
    weighted_near (suc (suc zero)) l = product 2 tt
    weighted_near (suc (suc (suc zero))) l = product 3 tt
    weighted_near (suc (suc (suc (suc n)))) l = absurd (omega arith)

-- ---- the sixteen
pub each_tab : (k i n : ℕ) (f : ℕ → Float) (g : ℕ → Fraction) → ((j : ℕ) → j < i + n → Within k (number (f j)) (g j))
    → EachWithin k (tab i n f) (tab i n g)
each_tab k i zero f g h = tt
each_tab k i (suc n) f g h = (h i (omega arith), each_tab k (suc i) n f g (λ j l. h j (omega arith)))
