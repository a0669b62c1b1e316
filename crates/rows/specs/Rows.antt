-- Document 01, 'Gains': a row of gains "times 1/root(n)", each product rounded once; and what the operations that fill
-- lent weights with such rows leave. Definitions only.
use Rattle.lists.specs.Prelude.{ℕ, List, map, Float, binary64, mul}
use Rattle.refusals.specs.Refusals.{answered}

abbrev pub scaled : Float → List Float → List Float
scaled f = map (λ (x : Float). mul binary64 x f)

-- the refusal, and what the lent weights hold
pub record WeightsAnswer : Type 0 where
  pub refusal : ℕ
  pub weights : List Float

-- a refusal, what an accepted call makes of the weights, and the weights as they were lent
abbrev pub computed_by : ℕ → List Float → List Float → WeightsAnswer
computed_by refusal made lent =
    answered refusal (record { refusal = 0; weights = made }) (λ n. record { refusal = n; weights = lent })
