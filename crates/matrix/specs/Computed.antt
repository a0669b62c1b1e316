-- What the program does once the order has named two rows. Definitions only; that these are document 01's rows is what
-- the proof of `compute_matrix` shows.
use Rattle.std.specs.Prelude.{◌+◌, ◌∷◌, ◌++◌}
use Rattle.lists.specs.Prelude.{ℕ, not, List, [], eqb, length, Float}
use Rattle.refusals.specs.Refusals.{first_of, ◌when◌}
use Rattle.rows.specs.Rows.{scaled, computed_by}
use Rattle.numbers.specs.Normalization.{inverse_root_of}
use Rattle.matrix.specs.Promise.{WeightsAnswer}

abbrev lengths_refusal : List Float → List Float → List Float → ℕ
lengths_refusal left right weights = first_of (5 when not (eqb (length weights) (length left + length right)) ∷ [])

abbrev pub rows_put : List Float → List Float → List Float → WeightsAnswer
rows_put left right weights =
    computed_by (lengths_refusal left right weights) (scaled (inverse_root_of 2) (left ++ right))
    weights
