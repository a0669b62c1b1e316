-- A worked answer, by computation. Assumes nothing.
use Rattle.std.specs.Prelude.{◌∷◌, ◌++◌}
use Rattle.lists.specs.Prelude.{List, [], map, replicate, lt, le, eq, neg, add, sub, mul, div, round, of_int}
use Rattle.formats.specs.Floats.{decimal}
use Rattle.fractions.specs.Fraction.{Fraction, number, whole}
use Rattle.series.specs.Angles.{turned}
use Rattle.angles.specs.Computed.{units, cut_angle, place, short, times, radian_units, nesting, nest, rounded_units}
use Rattle.angles.specs.Computed.{sine_at, cosine_at}
use Rattle.angles.specs.Computed.{wave_computed}
use Rattle.angles.specs.Limits.{is_inside, refuses_angle}
use Rattle.harmonics.specs.Computed.{sin, cos, waves_of, up_to}
use Rattle.harmonics.specs.Drill.{at, SameNumbers, zero_gain}
use Rattle.harmonics.proofs.Drill.{alike}
use Rattle.virtual_speaker.specs.Computed.{weigh}
use Rattle.virtual_speaker.specs.Promise.{outcome}

-- ---- order 1 in front: 1, 0, 0 and c, and 0 beyond the order
abbrev front : List Fraction
front = (whole 1 ∷ zero_gain ∷ zero_gain ∷ number (decimal 8244615675902878) ∷ []) ++ replicate 12 zero_gain

in_front : SameNumbers (map number (outcome 1 (at 0 0)).weights) front
unfolding refuses_angle is_inside weigh up_to waves_of sin cos lt le eq wave_computed place cut_angle units turned
    sine_at
    cosine_at
    short times radian_units nesting nest rounded_units of_int div neg add sub mul round
in_front = alike (map number (outcome 1 (at 0 0)).weights) front tt
