-- What is answered where lent weights are filled: the refusal by which it is said, and the weights that an accepted
-- call makes. Assumes nothing.
use Rattle.std.specs.Prelude.{◌≡◌}
use Rattle.lists.specs.Prelude.{ℕ, refl, ap, List, Float}
use Rattle.refusals.proofs.First.{answered_accepted, answered_number}
use Rattle.rows.specs.Rows.{WeightsAnswer, computed_by}

module _ (made lent : List Float) (r : ℕ) where
  pub computed_refusal : (computed_by r made lent).refusal ≡ r
  computed_refusal =
      answered_number (record { refusal = 0; weights = made }) (λ n. record { refusal = n; weights = lent })
      (λ (c : WeightsAnswer). c.refusal) refl r refl

  pub computed_weights : r ≡ 0 → (computed_by r made lent).weights ≡ made
  computed_weights e = ap (λ (c : WeightsAnswer). c.weights)
      (answered_accepted (record { refusal = 0; weights = made }) (λ n. record { refusal = n; weights = lent }) r e)
