-- Document 01, 'Refusal numbers': 1 is given exactly when "ambisonic order is not 1, 2 or 3", 5 when the length of the
-- lent weights is other than outputs x channels; "lent memory stays the same" on a refusal. Definitions only.
use Rattle.std.specs.Prelude.{◌*◌, ◌≡◌, ◌∷◌}
use Rattle.lists.specs.Prelude.{ℕ, not, List, [], eqb, length, Float}
use Rattle.refusals.specs.Refusals.{first_of, ◌when◌}
use Rattle.channel.specs.Orders.{refuses_order, channels_of_order}
pub use Rattle.rows.specs.Rows.{WeightsAnswer}
use Rattle.rows.specs.Rows.{computed_by}
use Rattle.matrix.specs.Rows.{binaural_rows}

abbrev pub refusal_of : ℕ → List Float → ℕ
refusal_of n weights =
    first_of (1 when refuses_order n ∷ 5 when not (eqb (length weights) (2 * channels_of_order n)) ∷ [])

unfoldable pub outcome : ℕ → List Float → WeightsAnswer
outcome n weights = computed_by (refusal_of n weights) (binaural_rows n) weights

abbrev pub BinauralRowsPromise : ℕ → List Float → WeightsAnswer → Type 0
BinauralRowsPromise n weights o = o ≡ outcome n weights
