-- Document 01, 'Gains', decoder matrix: "harmonics at the speaker times 1/root(n)", a row a speaker, a weight a
-- channel. Definitions only.
use Rattle.lists.specs.Prelude.{ℕ, List, flatten, get_or, take, Float}
use Rattle.fractions.specs.Fraction.{Fraction, whole, number}
use Rattle.lists.specs.Tables.{tab}
use Rattle.numbers.specs.Normalization.{inverse_root_of}
use Rattle.rows.specs.Rows.{scaled}
use Rattle.channel.specs.declared.Layout.{Layout}
use Rattle.channel.specs.Layouts.{channels_of}
use Rattle.channel.specs.Orders.{channels_of_order}
use Rattle.harmonics.specs.Formulas.{formulas}
use Rattle.harmonics.specs.Promise.{outcome}
use Rattle.decoder_matrix.specs.Speakers.{azimuth_by, azimuth_at, towards}

-- the row of an azimuth, one of n; of speaker i; and of every speaker
abbrev pub row_towards : ℕ → ℕ → ℕ → Float → List Float
row_towards order n channels azimuth = scaled (inverse_root_of n)
    (take channels (outcome order (towards azimuth)).gains)

abbrev pub row_by : ℕ → Layout → ℕ → ℕ → ℕ → List Float
row_by order l n channels i = row_towards order n channels (azimuth_by l n i)

abbrev pub rows_by : ℕ → Layout → ℕ → ℕ → List (List Float)
rows_by order l n channels = tab 0 n (row_by order l n channels)

abbrev pub matrix_of : ℕ → Layout → List Float
matrix_of order l = flatten (rows_by order l (channels_of l) (channels_of_order order))

-- the harmonic of a channel at a speaker: what the weight is, times root(n)
abbrev pub formula_at : ℕ → Layout → ℕ → ℕ → Fraction
formula_at order l i c = get_or (formulas order (number (azimuth_at l i)) (whole 0)) c (whole 0)
