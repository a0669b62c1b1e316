-- The promise is kept: all of it holds of the answer that the definition gives, for either wave, and so of the two
-- answers that the program can give. Assumes nothing.
use Rattle.std.specs.Prelude.{◌≡◌, ◌<◌}
use Rattle.lists.specs.Prelude.{refl, sym, ap, ◌∙◌, subst, Bool, true, false, not, ℕ, T, lit<, lit≤, Float, of_int}
use Rattle.lists.proofs.Tests.{cond_true, cond_false}
use Rattle.refusals.proofs.First.{answered_accepted, answered_by_lem}
use Rattle.fractions.specs.Fraction.{number, Within}
use Rattle.fractions.proofs.Within.{within_weaken}
use Rattle.series.specs.Sums.{Wave}
use Rattle.series.specs.Angles.{defined}
use Rattle.angles.specs.Promise.{Answer}
use Rattle.angles.specs.Limits.{limit, is_inside}
use Rattle.angles.specs.Computed.{turn, place, wave_at, wave_computed}
use Rattle.formats.specs.Floats.{zero_float}
use Rattle.angles.specs.Promise.{is_refused, refusal_of, outcome, WavePromise}
use Rattle.angles.proofs.Limits as Limits
use Rattle.angles.proofs.Floats.{accepted_number, place_less}
use Rattle.angles.proofs.Near.{computed_near}
use Rattle.angles.proofs.Exact.{computed_exact}

-- what is refused is what is not inside
refused_is : (d : Float) → is_refused d ≡ not (is_inside limit d)
unfolding of_int
refused_is d = Limits.refused_is limit d (lit< tt)

module _ (w : Wave) (d : Float) where
  -- the two answers of the program, by the value that it computes
  abbrev accepting : Float → Answer
  accepting v = record { refusal = 0; value = v }

  abbrev refusing : ℕ → Answer
  refusing n = record { refusal = n; value = zero_float }

  outcome_accepted : refusal_of d ≡ 0 → outcome w d ≡ accepting (wave_computed w d)
  outcome_accepted = answered_accepted (accepting (wave_computed w d)) refusing (refusal_of d)

  -- the value at an accepted angle
  pub value_is : refusal_of d ≡ 0 → (outcome w d).value ≡ wave_computed w d
  value_is h = ap (λ (r : Answer). r.value) (outcome_accepted h)

  pub outcome_kept : WavePromise w d (outcome w d)
  outcome_kept = record {
    bits = refl;
    words = λ h. record {
      near = within_weaken (lit≤ tt)
          (subst (λ (v : Float). Within 50 (number v) (defined w (number d))) (sym (value_is h))
          (computed_near w d (accepted_number d h)));
      exact = λ m. value_is h ∙ computed_exact w d (accepted_number d h) m;
    };
  }

  -- ---- each keeps the promise: n is the number of the refusal, a the place on the turn and v the value there
  pub refused_kept : (n : ℕ) → (is_inside limit d ≡ false) × (n ≡ 3) → WavePromise w d (refusing n)
  refused_kept n f =
      let r : is_refused d ≡ true = refused_is d ∙ ap not f.0 in
      subst (WavePromise w d)
      (sym (answered_by_lem (accepting (wave_computed w d)) refusing (refusal_of d) 3 (lit< tt) (cond_true 3 0 r))
      ∙ ap refusing (sym f.1))
      outcome_kept

  pub accepted_kept : (a : ℕ) (v : Float) → (is_inside limit d ≡ true) × (a ≡ place d) → v ≡ wave_at w a
      → WavePromise w d (accepting v)
  unfolding wave_computed
  accepted_kept a v f q =
      let r : is_refused d ≡ false = refused_is d ∙ ap not f.0 in
      subst (WavePromise w d) (outcome_accepted (cond_false 3 0 r) ∙ ap accepting (sym (q ∙ ap (wave_at w) f.1)))
      outcome_kept

-- ---- what its functions ask of each other on the way
module _ (d : Float) where
  pub inside : (b : Bool) → b ≡ is_inside limit d → b ≡ true → T (is_inside limit d)
  inside b e h = subst T (sym (sym e ∙ h)) tt

  pub placed : (a : ℕ) → a ≡ place d → a < turn
  placed a e = subst (λ (n : ℕ). n < turn) (sym e) (place_less d)
