-- Document 02, E3, of document 01's drill item 5: "at 120 only Ls still sounds; at 0, C is now loudest, with L and R
-- equal", of the formulas and of the program's gains, by computing. Assumes nothing.
use Rattle.std.specs.Prelude.{◌≡◌, ◌∷◌}
use Rattle.lists.specs.Prelude.{refl, ◌∙◌, true, false, [], lit<, pos, nan, lt, le, eq, neg, add, sub, mul, div, of_int}
use Rattle.lists.specs.Prelude.{of_bits, round, size, units}
use Rattle.fractions.specs.Fraction.{whole, square, ◌⊕◌, Less}
use Rattle.fractions.proofs.Restate.{⊕-zero, zero-⊕}
use Rattle.numbers.specs.Computed.{root_of, whole_root}
use Rattle.series.specs.Sums.{cosine_sum, term, power, factorial}
use Rattle.series.specs.Angles.{turned, around, reduced, is_multiple, quarters, defined}
use Rattle.series.specs.Angles as Series
use Rattle.angles.specs.Computed.{cut_angle, place, short, times, radian_units, nesting, nest, rounded_units, cosine_at}
use Rattle.angles.specs.Computed.{wave_computed}
use Rattle.formats.specs.Floats.{zero_float, one_float, float}
use Rattle.angles.specs.Computed as Angles
use Rattle.angles.specs.Limits.{is_inside, refuses_angle}
use Rattle.lists.specs.Tables.{tab}
use Rattle.channel.specs.declared.Layout.TheVariants.{Stereo, Surround51, Surround71, Custom}
use Rattle.harmonics.specs.Promise.{silent_gains}
use Rattle.surround.specs.Drill.{gains51, sides_at0, centre_at0}
use Rattle.surround.specs.Formula.{distance, raw_gain, raw_at, sum_at, is_silent}
use Rattle.surround.specs.Computed.{absolute, not_below, turned_towards, is_near, way_of, raw_of, channel_gain}
use Rattle.surround.specs.Computed.{raw_gains}
use Rattle.surround.specs.Computed.{sum_of, divided_by}
use Rattle.surround.specs.Promise.{surround_gains, outcome}

-- ---- at 120 only Ls sounds: the others are silent by the rule, and the square of Ls is all of the sum
pub silent_at_120 : tab 0 6 (is_silent Surround51 (whole 120)) ≡ true ∷ true ∷ true ∷ true ∷ false ∷ true ∷ []
unfolding is_silent distance
silent_at_120 = refl

pub only_ls : sum_at Surround51 (whole 120) ≡ square (raw_at Surround51 (whole 120) 4)
unfolding raw_at raw_gain distance
only_ls = let g = raw_gain (whole 120) (whole 110) in ⊕-zero (whole 0 ⊕ square g) ∙ zero-⊕ (square g)

-- ---- at 0, C is loudest, with L and R equal; the others are silent by the rule
pub silent_at_0 : tab 0 6 (is_silent Surround51 (whole 0)) ≡ false ∷ false ∷ false ∷ true ∷ true ∷ true ∷ []
unfolding is_silent distance
silent_at_0 = refl

pub centre : raw_at Surround51 (whole 0) 2 ≡ whole 1
unfolding raw_at raw_gain distance defined is_multiple quarters turned
centre = refl

pub left_and_right : raw_at Surround51 (whole 0) 0 ≡ raw_at Surround51 (whole 0) 1
unfolding raw_at raw_gain distance
left_and_right = refl

pub centre_loudest : Less (square (raw_at Surround51 (whole 0) 0)) (square (raw_at Surround51 (whole 0) 2))
unfolding raw_at raw_gain distance defined is_multiple quarters turned reduced around Series.radians cosine_sum term
    power
    factorial
centre_loudest = lit< tt

-- ---- the program's gains, bit for bit
pub at_120 : outcome Surround51 (float (pos 120))
    ≡ record { refusal = 0; gains = gains51 zero_float zero_float zero_float one_float }
unfolding refuses_angle is_inside surround_gains divided_by sum_of raw_gains channel_gain raw_of is_near turned_towards
    way_of
    absolute
    not_below lt le eq add sub mul div neg round of_int wave_computed place cut_angle Angles.units turned cosine_at
    short
    times
    radian_units nesting nest rounded_units root_of whole_root size units
at_120 = refl

pub at_0 : outcome Surround51 (float (pos 0))
    ≡ record { refusal = 0; gains = gains51 sides_at0 sides_at0 centre_at0 zero_float }
unfolding of_bits refuses_angle is_inside surround_gains divided_by sum_of raw_gains channel_gain raw_of is_near
    turned_towards
    way_of absolute
    not_below lt le eq add sub mul div neg round of_int wave_computed place cut_angle Angles.units turned cosine_at
    short
    times
    radian_units nesting nest rounded_units root_of whole_root size units
at_0 = refl

-- ---- what is refused
pub custom_17 : outcome (Custom 17) (float (pos 0)) ≡ record { refusal = 2; gains = silent_gains }
custom_17 = refl

pub stereo_and_nan : outcome Stereo nan ≡ record { refusal = 2; gains = silent_gains }
stereo_and_nan = refl

pub beyond_180 : outcome Surround71 (float (pos 181)) ≡ record { refusal = 3; gains = silent_gains }
unfolding refuses_angle is_inside lt le eq neg of_int
beyond_180 = refl
