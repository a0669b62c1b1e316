-- The worked bits of E3: the program's gains at azimuths where a speaker is pointed at, where it falls silent, and just
-- short of that, on both layouts, by computing. Assumes nothing.
use Rattle.std.specs.Prelude.{◌≡◌, ◌∷◌}
use Rattle.lists.specs.Prelude.{refl, false, List, [], ℕ, pos, negsuc, get_or, Float, nan, binary64, to_bits, of_bits}
use Rattle.lists.specs.Prelude.{lt, le, eq, neg, add, sub, mul, div, of_int, round, size, units}
use Rattle.lists.specs.Tables.{tab}
use Rattle.formats.specs.Floats.{float}
use Rattle.fractions.specs.Fraction.{number}
use Rattle.numbers.specs.Computed.{root_of, whole_root}
use Rattle.series.specs.Angles.{turned}
use Rattle.angles.specs.Computed.{cut_angle, place, short, times, radian_units, nesting, nest, rounded_units, cosine_at}
use Rattle.angles.specs.Computed.{wave_computed}
use Rattle.angles.specs.Computed as Angles
use Rattle.angles.specs.Limits.{is_inside, refuses_angle}
use Rattle.channel.specs.Layouts.{channels_of}
use Rattle.channel.specs.declared.Layout.{Layout}
use Rattle.channel.specs.declared.Layout.TheVariants.{Surround51, Surround71}
use Rattle.surround.specs.Formula.{distance, is_silent}
use Rattle.surround.specs.Computed.{absolute, not_below, turned_towards, is_near, way_of, raw_of, channel_gain}
use Rattle.surround.specs.Computed.{raw_gains}
use Rattle.surround.specs.Computed.{sum_of, divided_by}
use Rattle.surround.specs.Promise.{surround_gains, outcome}

-- the gains of a layout's channels, each as its 64 bits
abbrev bits : Layout → Float → List ℕ
bits l a = tab 0 (channels_of l) (λ c. to_bits binary64 (get_or (outcome l a).gains c nan))

-- the f64 next below 120: L is 90 degrees less 2 ^ -46 away there
abbrev next_below120 : Float
next_below120 = of_bits binary64 0x405DFFFFFFFFFFFF

worked :
    bits Surround51 (float (pos 30))
    ∷ bits Surround51 (float (pos 180))
    ∷ bits Surround51 (float (negsuc 179))
    ∷ bits Surround51 next_below120
    ∷ bits Surround71 (float (pos 30))
    ∷ bits Surround71 (float (pos 120))
    ∷ []
    ≡ (0x3FE675706F0902DE ∷ 0x3FD675706F0902DE ∷ 0x3FE373290FF52CE7 ∷ 0 ∷ 0x3FBF330980028168 ∷ 0 ∷ [])
    ∷ (0 ∷ 0 ∷ 0 ∷ 0 ∷ 0x3FE6A09E667F3BCD ∷ 0x3FE6A09E667F3BCD ∷ [])
    ∷ (0 ∷ 0 ∷ 0 ∷ 0 ∷ 0x3FE6A09E667F3BCD ∷ 0x3FE6A09E667F3BCD ∷ [])
    ∷ (0x3CC03F2FF9989906 ∷ 0 ∷ 0 ∷ 0 ∷ 0x3FF0000000000000 ∷ 0 ∷ [])
    ∷ (0x3FE5555555555554 ∷ 0x3FD5555555555554 ∷ 0x3FE279A74590331D ∷ 0 ∷ 0x3FD5555555555554 ∷ 0 ∷ 0 ∷ 0 ∷ [])
    ∷ (0 ∷ 0 ∷ 0 ∷ 0 ∷ 0x3FE6A09E667F3BCC ∷ 0 ∷ 0x3FE6A09E667F3BCC ∷ 0 ∷ [])
    ∷ []
unfolding to_bits of_bits refuses_angle is_inside surround_gains divided_by sum_of raw_gains channel_gain raw_of is_near
    turned_towards way_of
    absolute not_below lt le eq add sub mul div neg round of_int wave_computed place cut_angle Angles.units turned
    cosine_at
    short
    times radian_units nesting nest rounded_units root_of whole_root size units
worked = refl

-- the f64 next above -60: L is 90 degrees less 2 ^ -47 away there, which rounds to 90
abbrev next_above_minus60 : Float
next_above_minus60 = of_bits binary64 0xC04DFFFFFFFFFFFF

-- less than 90 away, and 0.0 all the same. The rule does not call it silent, and no promise says that it sounds: its
-- exact gain is some 10 ^ -16
rounded_to_90 : (get_or (bits Surround51 next_above_minus60) 0 1 ≡ 0)
    × (is_silent Surround51 (number next_above_minus60) 0 ≡ false)
unfolding is_silent distance to_bits of_bits refuses_angle is_inside surround_gains divided_by sum_of raw_gains
    channel_gain raw_of
    is_near turned_towards way_of absolute not_below lt le eq add sub mul div neg round of_int wave_computed place
    cut_angle
    Angles.units
    turned cosine_at short times radian_units nesting nest rounded_units root_of whole_root size units
rounded_to_90 = (refl, refl)
