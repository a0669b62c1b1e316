-- The laws of `pairwise` and `taps_from`: what holds of the fields that stand a stride apart holds of their list, and
-- the other way round. Assumes nothing.
use Rattle.std.specs.Prelude.{◌≡◌, ◌&&◌, ◌∷◌, ◌++◌, ◌+◌, ◌-◌, ◌*◌, ◌<◌}
use Rattle.lists.specs.Prelude.{refl, sym, ap, ◌∙◌, Bool, true, false, and-eq-true_iff, and-true, List, [], flat_map, ℕ}
use Rattle.lists.specs.Prelude.{zero, suc, dec_lt, sub-one, arith, length}
use Rattle.lists.specs.Tables.{every}
use Rattle.lists.proofs.Every.{every_append}
use Rattle.lists.proofs.Joined.{joined_none, joined_more, joined_snoc, length_joined}
use Rattle.big_endian.specs.Fields.{float_at}
use Rattle.big_endian.specs.Lists.{strided}
use Rattle.big_endian.proofs.Lists.{strided_none, length_strided, strided_more, strided_snoc}
use Rattle.bank_form.specs.Bank.{pairwise}
use Rattle.bank_form.specs.Version.{row_size, taps_at}
use Rattle.bank_form.specs.Fault.{row_taps, taps_from}

-- four tests, two by two
pub exchange : (a b c d : Bool) → (a && b && (c && d)) ≡ (a && c && (b && d))
exchange true true c d = refl
exchange true false true d = refl
exchange true false false d = refl
exchange false b c d = refl

module _ {A : Type 0} where
  -- ---- one more at the end

  pairwise_none : (r : A → A → Bool) → pairwise r [] ≡ true
  unfolding pairwise
  pairwise_none r = refl

  pub pairwise_snoc : (r : A → A → Bool) (xs : List A) (y : A)
      → pairwise r (xs ++ (y ∷ [])) ≡ (pairwise r xs && every (λ (x : A). r x y) xs)
  unfolding pairwise
  pairwise_snoc r [] y = refl
  pairwise_snoc r (x ∷ xs) y =
      rw (every_append (r x) xs (y ∷ []), pairwise_snoc r xs y, and-true (r x y))
      (exchange (every (r x) xs) (r x y) (pairwise r xs) (every (λ (z : A). r z y) xs))

  module _ (f : ℕ → A) (w : ℕ) where
    pub every_none : (p : A → Bool) (at : ℕ) → every p (strided f w at 0) ≡ true
    unfolding strided
    every_none p at = refl

    pub every_more : (p : A → Bool) (at n : ℕ) → every p (strided f w at (suc n))
        ≡ (p (f at) && every p (strided f w (at + w) n))
    every_more p at n = ap (every p) (strided_more f w at n)

    pub every_next : (p : A → Bool) (at n : ℕ) → 0 < n → every p (strided f w at n)
        ≡ (p (f at) && every p (strided f w (at + w) (n - 1)))
    every_next p at zero h = absurd (omega arith)
    every_next p at (suc n) h = rw (sub-one (suc n)) (every_more p at n)

    -- each field differs from those before it exactly if they differ pairwise
    module _ (r : A → A → Bool) (at : ℕ) where
      one_more : (n : ℕ) → pairwise r (strided f w at (suc n))
          ≡ (pairwise r (strided f w at n) && every (λ (x : A). r x (f (at + n * w))) (strided f w at n))
      one_more n = ap (pairwise r) (strided_snoc f w at n) ∙ pairwise_snoc r (strided f w at n) (f (at + n * w))

      pub pairwise_before : (n : ℕ) → pairwise r (strided f w at n) ≡ true → (j : ℕ) → j < n
          → every (λ (x : A). r x (f (at + j * w))) (strided f w at j) ≡ true
      pairwise_before zero h j g = absurd (omega arith)
      pairwise_before (suc n) h j g =
          let both = (and-eq-true_iff _ _).0 (sym (one_more n) ∙ h) in
          elim (dec_lt j n) [
            | yes k ↦ pairwise_before n both.0 j k
            | no k ↦ let q : j ≡ n = omega arith in rw q both.1
          ]

      pub before_pairwise : (n : ℕ)
          → ((j : ℕ) → j < n → every (λ (x : A). r x (f (at + j * w))) (strided f w at j) ≡ true)
          → pairwise r (strided f w at n) ≡ true
      before_pairwise zero h = ap (pairwise r) (strided_none f w at) ∙ pairwise_none r
      before_pairwise (suc n) h = one_more n ∙ (and-eq-true_iff _ _).1
          (before_pairwise n (λ j g. h j (omega arith)), h n (omega arith))

-- ---- the taps of rows

module _ (s : List ℕ) (v l at : ℕ) where
  pub taps_none : taps_from s v l at 0 ≡ []
  unfolding taps_from
  taps_none = ap (flat_map (row_taps s v l)) (strided_none (λ p. p) (row_size v l) at) ∙ joined_none (row_taps s v l)

  module _ (n : ℕ) where
    pub length_taps : length (taps_from s v l at n) ≡ n * (2 * l)
    unfolding taps_from
    length_taps = cc (
      length_joined (row_taps s v l) (2 * l) (λ p. length_strided (float_at s) 4 (taps_at v p) (2 * l))
          (strided (λ p. p) (row_size v l) at n),
      length_strided (λ p. p) (row_size v l) at n,
    )

    -- one row more before the others, and behind them
    pub taps_more : taps_from s v l at (suc n) ≡ row_taps s v l at ++ taps_from s v l (at + row_size v l) n
    unfolding taps_from
    taps_more = ap (flat_map (row_taps s v l)) (strided_more (λ p. p) (row_size v l) at n)
        ∙ joined_more (row_taps s v l) at (strided (λ p. p) (row_size v l) (at + row_size v l) n)

    pub taps_snoc : taps_from s v l at (suc n) ≡ taps_from s v l at n ++ row_taps s v l (at + n * row_size v l)
    unfolding taps_from
    taps_snoc = ap (flat_map (row_taps s v l)) (strided_snoc (λ p. p) (row_size v l) at n)
        ∙ joined_snoc (row_taps s v l) (strided (λ p. p) (row_size v l) at n) (at + n * row_size v l)
