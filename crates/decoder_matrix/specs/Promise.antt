-- Document 01, 'Refusal numbers': 1 when "ambisonic order is not 1, 2 or 3", 2 when "Custom n is 0 or above 16", 5 when
-- a length is "other than [..] weights outputs (or speakers) x channels", and "lent memory stays the same". 'Gains',
-- decoder matrix: "Within 2^-33, by squares in the same way on magnitudes, with the sign of the formula wherever the
-- formula exceeds 2^-33 in magnitude." Definitions only.
use Rattle.std.specs.Prelude.{◌*◌, ◌<◌, ◌≡◌, ◌∷◌}
use Rattle.lists.specs.Prelude.{ℕ, not, List, [], eqb, length, get_or, Float, nan}
use Rattle.refusals.specs.Refusals.{Check, first_of, ◌when◌}
use Rattle.fractions.specs.Fraction.{whole, number}
use Rattle.fractions.specs.Squares.{BySquares}
use Rattle.lists.specs.Tables.{chunk}
use Rattle.channel.specs.declared.Layout.{Layout}
use Rattle.channel.specs.Layouts.{channels_of, refuses_channels}
use Rattle.channel.specs.Orders.{refuses_order, channels_of_order}
pub use Rattle.rows.specs.Rows.{WeightsAnswer}
use Rattle.rows.specs.Rows.{computed_by}
use Rattle.decoder_matrix.specs.Matrix.{matrix_of, formula_at}

-- within 2 ^ -matrixBits: the place to change it at
abbrev pub matrix_bits : ℕ
matrix_bits = 33

abbrev pub checks_of : ℕ → Layout → List Float → List Check
checks_of order l weights = 1 when refuses_order order ∷ 2 when refuses_channels (channels_of l)
    ∷ 5 when not (eqb (length weights) (channels_of l * channels_of_order order)) ∷ []

abbrev pub refusal_of : ℕ → Layout → List Float → ℕ
refusal_of order l weights = first_of (checks_of order l weights)

abbrev pub outcome : ℕ → Layout → List Float → WeightsAnswer
outcome order l weights = computed_by (refusal_of order l weights) (matrix_of order l) weights

-- every bit; and of each weight of an accepted matrix, that of channel c in the row of speaker i, how near it is to the
-- harmonic over the root of n
pub record DecoderMatrixPromise (order : ℕ) (l : Layout) (weights : List Float) (r : WeightsAnswer) : Type 0 where
  pub bits : r ≡ outcome order l weights
  pub words : refusal_of order l weights ≡ 0 → (i c : ℕ) → i < channels_of l → c < channels_of_order order
      → BySquares matrix_bits (number (get_or (chunk (channels_of_order order) i r.weights) c nan))
      (formula_at order l i c) (whole (channels_of l))
