-- Readings of the mirrored gains that are wrong, each at a direction or a position where it fails, by computing.
-- Assumes nothing.
use Rattle.std.specs.Prelude.{◌≡◌, ◌||◌, ◌∷◌}
use Rattle.lists.specs.Prelude.{refl, sym, ap, Bool, true≢false, List, [], map, ℕ, arith, eqb, pos, negsuc, get_or}
use Rattle.lists.specs.Prelude.{Float, nan, binary64, to_bits, size, round, add, sub, mul, div, neg, lt, le, eq, of_int}
use lib.Ieee as Ieee
use Rattle.numbers.specs.Conversions.{negative}
use Rattle.series.specs.Angles.{turned}
use Rattle.angles.specs.Computed.{units, cut_angle, place, short, times, radian_units, nesting, nest, rounded_units}
use Rattle.angles.specs.Computed.{sine_at, cosine_at}
use Rattle.angles.specs.Computed.{wave_computed}
use Rattle.angles.specs.Limits.{is_inside, refuses_angle}
use Rattle.harmonics.specs.Computed.{sin, cos, waves_of, up_to}
use Rattle.harmonics.specs.Drill.{at}
use Rattle.harmonics.specs.Promise.{outcome}
use Rattle.stereo.specs.Computed.{clamped_to, angle_of}
use Rattle.stereo.specs.Promise as Stereo
use Rattle.matrix.specs.Mirror.{lateral, negated_at, mirrored}
use Rattle.formats.specs.Floats.{float}
use Rattle.formats.specs.Zeros.{unsigned_zero}
use Rattle.channel.specs.declared.Layout.TheVariants.{Custom}
use Rattle.numbers.specs.Computed.{root_of, whole_root}
use Rattle.numbers.specs.Normalization.{inverse_root_of}
use Rattle.decoder_matrix.specs.Speakers.{custom_azimuth, turned_back}
use Rattle.decoder_matrix.specs.Matrix.{row_by}
use Rattle.mirror.specs.Scenes.{mirrored_direction, Swapped}

sign_at : ℕ → List Float → Bool
sign_at c xs = negative (get_or xs c nan)

-- bit for bit: straight ahead channel 1 is 0.0 either way, and negated it would be -0.0
bit_for_bit : (outcome 1 (mirrored_direction (at 0 0))).gains ≡ mirrored neg (outcome 1 (at 0 0)).gains → ⊥
unfolding sign_at refuses_angle is_inside up_to waves_of sin cos lt le eq wave_computed place cut_angle units turned
    sine_at
    cosine_at
    short times radian_units
    nesting nest rounded_units of_int div neg add sub mul round
bit_for_bit h = true≢false (sym (ap (sign_at 1) h))

-- channel 2, up and down, negated too: of a voice overhead it is 1.0 either way
height_negated : map unsigned_zero (outcome 1 (mirrored_direction (at 0 90))).gains ≡ map unsigned_zero
    (negated_at neg (λ c. eqb c 2 || lateral c) 0 (outcome 1 (at 0 90)).gains) → ⊥
unfolding sign_at refuses_angle is_inside up_to waves_of sin cos lt le eq wave_computed place cut_angle units turned
    sine_at
    cosine_at
    short times radian_units
    nesting nest rounded_units of_int div neg add sub mul round
height_negated h = true≢false (sym (ap (sign_at 2) h))

-- ---- stereo

-- In the middle both gains are the same, to the bit. At 12 the right gain is the sine of 50.4 degrees, and at -12 the
-- left one the cosine of 39.6: two sums, each rounded to a multiple of 2 ^ -51.

gain_bits : Float → List ℕ
gain_bits p = to_bits binary64 (Stereo.outcome p).left ∷ to_bits binary64 (Stereo.outcome p).right ∷ []

worked_stereo : gain_bits (float (pos 0)) ∷ gain_bits (float (pos 12)) ∷ gain_bits (float (negsuc 11)) ∷ []
    ≡ (0x3FE6A09E667F3BCC ∷ 0x3FE6A09E667F3BCC ∷ []) ∷ (0x3FE465C6FEB501BC ∷ 0x3FE8A80B635B6BEC ∷ [])
    ∷ (0x3FE8A80B635B6BE8 ∷ 0x3FE465C6FEB501BC ∷ []) ∷ []
unfolding gain_bits Stereo.outcome to_bits angle_of clamped_to refuses_angle is_inside lt le eq wave_computed place
    cut_angle
    units
    turned sine_at cosine_at
    short times radian_units nesting nest rounded_units of_int div neg add sub mul round
worked_stereo = refl

stereo_exchanged : (Stereo.outcome (float (negsuc 11))).left ≡ (Stereo.outcome (float (pos 12))).right → ⊥
unfolding gain_bits
stereo_exchanged h =
    let e : ◌≡◌ {A = ℕ} 0x3FE8A80B635B6BE8 0x3FE8A80B635B6BEC = cc (worked_stereo, ap (to_bits binary64) h) in
    omega arith

-- ---- Custom(14): i x (360/14) is rounded, and speakers 2 and 5 do not stand quite opposite each other

row14 : ℕ → List Float
row14 = row_by 1 (Custom 14) 14 4

rows_of_14 : Swapped (row14 2) (row14 5) → ⊥
unfolding row14 to_bits inverse_root_of root_of whole_root size Ieee.units custom_azimuth turned_back refuses_angle
    is_inside up_to
    waves_of sin cos lt le eq wave_computed place
    cut_angle units turned sine_at cosine_at short times radian_units nesting nest rounded_units of_int div neg add sub
    mul
    round
rows_of_14 h = true≢false
    (ap (λ (xs : List Float). eqb (to_bits binary64 (get_or (map unsigned_zero (row14 5)) 1 nan))
    (to_bits binary64 (get_or xs 1 nan))) h)
