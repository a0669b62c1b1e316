-- Answers at some angles, by computation: exact ones at multiples of 90, bits between them, and the ends of what is
-- accepted. Assumes nothing.
use Rattle.std.specs.Prelude.{◌≡◌}
use Rattle.lists.specs.Prelude.{refl, true, false, pos, negsuc, Float, nan, inf, fin, binary64, lt, le, eq, neg, div}
use Rattle.lists.specs.Prelude.{of_int, to_bits}
use Rattle.series.specs.Sums.{sine, cosine}
use Rattle.series.specs.Angles.{turned}
use Rattle.angles.specs.Promise.{Answer}
use Rattle.angles.specs.Computed.{units, cut_angle, place, short, times, radian_units, nesting, nest, rounded_units}
use Rattle.angles.specs.Computed.{sine_at}
use Rattle.angles.specs.Computed.{cosine_at, wave_computed}
use Rattle.angles.specs.Limits.{is_inside, refuses_angle}
use Rattle.formats.specs.Floats.{zero_float, one_float, minus_one_float, float}
use Rattle.angles.specs.Promise.{outcome}

abbrev accepted : Float → Answer
accepted v = record { refusal = 0; value = v }

abbrev refused : Answer
refused = record { refusal = 3; value = zero_float }

-- ---- 0, 1 and -1 at multiples of 90, and 0 with no sign
sine_90 : outcome sine (float (pos 90)) ≡ accepted one_float
unfolding refuses_angle is_inside lt le eq wave_computed place cut_angle units turned sine_at short times radian_units
    nesting
    nest rounded_units
    of_int div neg
sine_90 = refl

sine_180 : outcome sine (float (pos 180)) ≡ accepted (fin false 0 (pos 0))
unfolding refuses_angle is_inside lt le eq wave_computed place cut_angle units turned sine_at short times radian_units
    nesting
    nest rounded_units
    of_int div neg
sine_180 = refl

sine_270 : outcome sine (float (pos 270)) ≡ accepted minus_one_float
unfolding refuses_angle is_inside lt le eq wave_computed place cut_angle units turned sine_at short times radian_units
    nesting
    nest rounded_units
    of_int div neg
sine_270 = refl

cosine_minus_540 : outcome cosine (float (negsuc 539)) ≡ accepted minus_one_float
unfolding refuses_angle is_inside lt le eq wave_computed place cut_angle units turned cosine_at short times radian_units
    nesting nest
    rounded_units of_int div neg
cosine_minus_540 = refl

-- ---- between them
sine_30 : to_bits binary64 (wave_computed sine (float (pos 30))) ≡ 0x3FE0000000000000
unfolding wave_computed place cut_angle units turned sine_at short times radian_units nesting nest rounded_units of_int
    div
    neg to_bits
sine_30 = refl

cosine_30 : to_bits binary64 (wave_computed cosine (float (pos 30))) ≡ 0x3FEBB67AE8584CAC
unfolding wave_computed place cut_angle units turned cosine_at short times radian_units nesting nest rounded_units
    of_int div
    neg to_bits
cosine_30 = refl

sine_minus_1 : to_bits binary64 (wave_computed sine (float (negsuc 0))) ≡ 0xBF91DF0B2B89DD00
unfolding wave_computed place cut_angle units turned sine_at short times radian_units nesting nest rounded_units of_int
    div
    neg to_bits
sine_minus_1 = refl

-- ---- the ends of what is accepted: 1080 is, and the next float is not; no NaN is, and no infinity
sine_1080 : outcome sine (float (pos 1080)) ≡ accepted zero_float
unfolding refuses_angle is_inside lt le eq wave_computed place cut_angle units turned sine_at short times radian_units
    nesting
    nest rounded_units
    of_int div neg
sine_1080 = refl

above_1080 : outcome sine (fin false 4749890231992321 (negsuc 41)) ≡ refused
unfolding refuses_angle is_inside lt le eq neg of_int
above_1080 = refl

of_nan : outcome sine nan ≡ refused
unfolding refuses_angle
of_nan = refl

of_infinity : outcome cosine (inf true) ≡ refused
unfolding refuses_angle
of_infinity = refl
