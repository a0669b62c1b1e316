-- Document 01, 'Marked drill table', item 4: "Stereo -100 gives 1, 0; 250 gives 0, 1", of the formulas as of the
-- program's gains; the middle; and what is refused. By computing. Assumes nothing.
use Rattle.std.specs.Prelude.{◌≡◌}
use Rattle.lists.specs.Prelude.{refl, true, pos, negsuc, Float, nan, inf, binary64, lt, le, eq, neg, add, mul, div}
use Rattle.lists.specs.Prelude.{of_int, to_bits}
use Rattle.fractions.specs.Fraction.{whole, number}
use Rattle.series.specs.Angles.{turned, is_multiple, quarters, defined, defined_sine, defined_cosine}
use Rattle.angles.specs.Computed.{units, cut_angle, place, short, times, radian_units, nesting, nest, rounded_units}
use Rattle.angles.specs.Computed.{sine_at, cosine_at}
use Rattle.angles.specs.Computed.{wave_computed}
use Rattle.formats.specs.Floats.{zero_float, one_float, float}
use Rattle.angles.specs.Limits.{is_inside, refuses_angle}
use Rattle.stereo.specs.Angle.{clamped, angle}
use Rattle.stereo.specs.Computed.{clamped_to, angle_of}
use Rattle.stereo.specs.Promise.{StereoAnswer, refused, outcome}

abbrev pub accepted : Float → Float → StereoAnswer
accepted l r = record { refusal = 0; left = l; right = r }

-- ---- the formulas
pub left_at_minus_100 : defined_cosine (angle (number (float (negsuc 99)))) ≡ whole 1
unfolding of_int clamped angle defined is_multiple quarters turned
left_at_minus_100 = refl

pub right_at_minus_100 : defined_sine (angle (number (float (negsuc 99)))) ≡ whole 0
unfolding of_int clamped angle defined is_multiple quarters turned
right_at_minus_100 = refl

pub left_at_250 : defined_cosine (angle (number (float (pos 250)))) ≡ whole 0
unfolding of_int clamped angle defined is_multiple quarters turned
left_at_250 = refl

pub right_at_250 : defined_sine (angle (number (float (pos 250)))) ≡ whole 1
unfolding of_int clamped angle defined is_multiple quarters turned
right_at_250 = refl

-- ---- the program's gains
pub at_minus_100 : outcome (float (negsuc 99)) ≡ accepted one_float zero_float
unfolding outcome angle_of clamped_to lt le eq add refuses_angle is_inside wave_computed place cut_angle units turned
    sine_at
    cosine_at
    short times radian_units nesting nest rounded_units of_int mul div neg
at_minus_100 = refl

pub at_250 : outcome (float (pos 250)) ≡ accepted zero_float one_float
unfolding outcome angle_of clamped_to lt le eq add refuses_angle is_inside wave_computed place cut_angle units turned
    sine_at
    cosine_at
    short times radian_units nesting nest rounded_units of_int mul div neg
at_250 = refl

-- in the middle both are the cosine of 45 degrees, at a last place of 2 ^ -51
in_the_middle : to_bits binary64 (outcome (float (pos 0))).left ≡ 0x3FE6A09E667F3BCC
unfolding outcome angle_of clamped_to lt le eq add refuses_angle is_inside wave_computed place cut_angle units turned
    sine_at
    cosine_at
    short times radian_units nesting nest rounded_units of_int mul div neg to_bits
in_the_middle = refl

-- ---- what is refused
of_nan : outcome nan ≡ refused 3
unfolding outcome
of_nan = refl

pub of_infinity : outcome (inf true) ≡ refused 3
unfolding outcome
of_infinity = refl
