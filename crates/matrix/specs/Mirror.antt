-- Document 02, E7: "The right row becomes the left row with channels 1, 4, 5, 9, 10 and 11 negated, for every order as
-- far as it reaches." Which channels these are, and what it is to be negated there. Definitions only.
use Rattle.std.specs.Prelude.{◌∷◌}
use Rattle.lists.specs.Prelude.{ℕ, suc, Bool, cond, List, [], eqb}
use Rattle.lists.specs.Tables.{any}

-- channels 1, 4, 5, 9, 10 and 11
abbrev pub lateral : ℕ → Bool
lateral c = any (eqb c 1 ∷ eqb c 4 ∷ eqb c 5 ∷ eqb c 9 ∷ eqb c 10 ∷ eqb c 11 ∷ [])

-- whatever the elements are, whole numbers or floats, by their own negation
module _ {A : Type 0} (negate : A → A) where
  -- a list whose first element is at place i, negated at the places that are named
  abbrev pub negated_at : (ℕ → Bool) → ℕ → List A → List A
  negated_at named i [] = []
  negated_at named i (x ∷ xs) = cond (named i) (negate x) x ∷ negated_at named (suc i) xs

  -- a row of weights or a frame of samples, one for each channel, negated at the lateral ones
  abbrev pub mirrored : List A → List A
  mirrored = negated_at lateral 0
