-- Document 01, 'Gains', surround: "d is the shorter way round from azimuth to speaker. LFE is exactly 0.0. [..] 'less
-- than 90' is decided on exact values, not on a rounded difference. Then each is divided by the root of the sum of
-- squares." Document 02, E3: "The raw gain becomes cos d for d < 90, else 0." Definitions only, over fractions of
-- degrees: nothing is rounded here. The speakers of a layout are those of `channel`.
use Rattle.std.specs.Prelude.{◌||◌}
use Rattle.lists.specs.Prelude.{ℕ, suc, Bool, not, cond, List, leb, ℤ, pos, negsuc}
use Rattle.fractions.specs.Fraction.{Fraction, whole, opposite, magnitude, ◌⊖◌, is_less}
use Rattle.fractions.specs.Squares.{sum_squares}
use Rattle.series.specs.Angles.{defined_cosine}
use Rattle.lists.specs.Tables.{tab}
use Rattle.channel.specs.Layouts.{channels_of, low_frequency, degrees_of}
use Rattle.channel.specs.declared.Layout.{Layout}

abbrev pub degrees : ℤ → Fraction
degrees (pos n) = whole n
degrees (negsuc n) = opposite (whole (suc n))

-- where the speaker of a channel stands
abbrev pub speaker_at : Layout → ℕ → Fraction
speaker_at l c = degrees (degrees_of l c)

-- the way round that is at most 180
abbrev pub shorter : Fraction → Fraction
shorter x = cond (is_less (whole 180) x) (whole 360 ⊖ x) x

unfoldable pub distance : Fraction → Fraction → Fraction
distance a s = shorter (magnitude (a ⊖ s))

unfoldable pub raw_gain : Fraction → Fraction → Fraction
raw_gain a s = cond (is_less (distance a s) (whole 90)) (defined_cosine (distance a s)) (whole 0)

-- of a channel
unfoldable pub raw_at : Layout → Fraction → ℕ → Fraction
raw_at l a c = cond (low_frequency l c) (whole 0) (raw_gain a (speaker_at l c))

-- of all channels, and the sum of their squares
abbrev pub raw_formulas : Layout → Fraction → List Fraction
raw_formulas l a = tab 0 (channels_of l) (raw_at l a)

abbrev pub sum_at : Layout → Fraction → Fraction
sum_at l a = sum_squares (raw_formulas l a)

-- the LFE, the speakers that are 90 degrees away or more, and the places beyond the layout's channels
unfoldable pub is_silent : Layout → Fraction → ℕ → Bool
is_silent l a c = leb (channels_of l) c || low_frequency l c || not (is_less (distance a (speaker_at l c)) (whole 90))
