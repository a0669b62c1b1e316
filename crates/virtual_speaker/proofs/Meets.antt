-- The promise is kept: all of it holds of the answer that the definition gives, and the program gives that. Assumes
-- nothing.
use Rattle.std.specs.Prelude.{◌≡◌, ◌≤◌, ◌<◌}
use Rattle.lists.specs.Prelude.{refl, sym, ap, ◌∙◌, subst, List, ℕ, zero, suc, ltb, lit≤, get_or, Float, nan, binary64}
use Rattle.lists.specs.Prelude.{mul, round, of_int}
use Rattle.refusals.specs.Refusals.{answered}
use Rattle.refusals.proofs.First.{answered_accepted}
use Rattle.lists.proofs.Tests.{cond_cases}
use Rattle.fractions.specs.Fraction.{Fraction, number, whole, ◌⊗◌, Within, EachWithin}
use Rattle.fractions.proofs.Approximates.{Approximates}
use Rattle.fractions.proofs.Within.{within_weaken}
use Rattle.series.specs.Sums.{power}
use Rattle.channel.proofs.Orders.{one_of_three}
use Rattle.harmonics.specs.Formulas.{formulas}
use Rattle.harmonics.specs.Computed.{waves_of, up_to}
use Rattle.harmonics.specs.Promise.{refusal_of, silent_gains}
use Rattle.harmonics.specs.Promise as Harmonics
use Rattle.harmonics.specs.declared.Direction.{Direction}
use Rattle.harmonics.specs.Promise.{Coefficients}
use Rattle.harmonics.proofs.Laws as Laws
use Rattle.virtual_speaker.specs.Weights.{max_re_cosine, degree_of, weighted_formulas}
use Rattle.virtual_speaker.specs.Computed.{cosine_of, weight, weigh, weighted}
use Rattle.virtual_speaker.specs.Promise.{weight_bits, outcome, MaxRePromise}
use Rattle.virtual_speaker.specs.Promise.{Weighted}
use Rattle.virtual_speaker.proofs.Cosines.{cosine_near}
use Rattle.virtual_speaker.proofs.Near.{weighted_near, each_tab}

-- ---- zeros stay zeros
silence_weighed : (n : ℕ) → weigh (cosine_of n) silent_gains ≡ silent_gains
unfolding weigh mul round of_int
silence_weighed = one_of_three (λ (k : Float). weigh k silent_gains ≡ silent_gains) refl refl refl

degree_most : (i : ℕ) → degree_of i ≤ 3
degree_most i = let P : ℕ → Type 0 = λ l. l ≤ 3 in cond_cases P (ltb i 1) (lit≤ tt)
    (cond_cases P (ltb i 4) (lit≤ tt) (cond_cases P (ltb i 9) (lit≤ tt) (lit≤ tt)))

module _ (order : ℕ) (d : Direction) where
  abbrev a : Fraction
  a = number d.azimuth

  abbrev e : Fraction
  e = number d.elevation

  abbrev computed_at : ℕ → Float
  computed_at i = mul binary64 (get_or (up_to order (waves_of d)) i nan) (weight (cosine_of order) (degree_of i))

  abbrev formula_at_lem : ℕ → Fraction
  formula_at_lem i = get_or (formulas order a e) i (whole 0) ⊗ power (max_re_cosine order) (degree_of i)

  -- ---- each of the weighted coefficients of an accepted direction, by its channel
  near_at : refusal_of order d ≡ 0 → (i : ℕ) → i < 16 → Within 41 (number (computed_at i)) (formula_at_lem i)
  near_at h i l =
      let o = Harmonics.outcome order d in
      let p = Laws.outcome_kept order d in
      weighted_near (cosine_near order (Laws.is_accepted order d h).order_is)
      (subst (λ (xs : List Float). Approximates 42 (whole 5) (get_or xs i nan)
      (get_or (formulas order a e) i (whole 0)))
      (Laws.gains_are order d o p h) (Laws.gain_near order d o p h i nan (whole 0) l))
      (degree_of i) (degree_most i)

  abbrev accepting : List Float → Weighted
  accepting xs = record { refusal = 0; weights = xs }

  abbrev refusing : ℕ → Weighted
  refusing n = record { refusal = n; weights = silent_gains }

  weights_are : refusal_of order d ≡ 0 → (outcome order d).weights ≡ weighted order d
  weights_are h = ap (λ (r : Weighted). r.weights)
      (answered_accepted (accepting (weighted order d)) refusing (refusal_of order d) h)

  pub outcome_kept : MaxRePromise order d (outcome order d)
  unfolding weigh
  outcome_kept = record {
    bits = refl;
    words = λ h.
        subst (λ (xs : List Float). EachWithin weight_bits xs (weighted_formulas order a e)) (sym (weights_are h))
        (each_tab weight_bits 0 16 computed_at formula_at_lem (λ i l. within_weaken (lit≤ tt) (near_at h i l)));
  }

  -- ---- the answer of the program
  pub weighed_kept : (r : Coefficients) → Harmonics.HarmonicsPromise order d r → (w : List Float)
      → w ≡ weigh (cosine_of order) r.gains → MaxRePromise order d (record { refusal = r.refusal; weights = w })
  weighed_kept r p w h =
      subst (MaxRePromise order d)
      (sym ((λ i. record {
        refusal = (p.bits i).refusal;
        weights = (h ∙ ap (λ (s : Coefficients). weigh (cosine_of order) s.gains) p.bits) i;
      })
      ∙ through (refusal_of order d))) outcome_kept
    where
      -- by the refusal: the coefficients, and those weighed
      coefficients : ℕ → Coefficients
      coefficients n = answered n (record { refusal = 0; gains = up_to order (waves_of d) })
          (λ k. record { refusal = k; gains = silent_gains })

      through : (n : ℕ) → record {
        refusal = (coefficients n).refusal;
        weights = weigh (cosine_of order) (coefficients n).gains;
      } ≡ answered n (accepting (weighted order d))
          refusing
      through zero = refl
      through (suc n) = ap (λ (xs : List Float). record { refusal = suc n; weights = xs }) (silence_weighed order)
