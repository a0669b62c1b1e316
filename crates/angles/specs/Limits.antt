-- Document 01, 'Refusal numbers': 3 is given exactly when "an angle [..] is NaN or infinite, or azimuth is outside
-- -180..180, elevation outside -90..90, or a sine's angle outside -1080..1080 degrees": one test over the limit, for
-- each of the three. Both ends are inside. Definitions only.
use Rattle.std.specs.Prelude.{◌&&◌, ◌||◌}
use Rattle.lists.specs.Prelude.{Bool, not, pos, Float, le, neg}
use Rattle.std.specs.Float.Ieee.Scale.{finite}
use Rattle.formats.specs.Floats.{float}

-- "a sine's angle outside -1080..1080 degrees"
abbrev pub limit : Float
limit = float (pos 1080)

-- -limit..limit
unfoldable pub is_inside : Float → Float → Bool
is_inside limit x = le (neg limit) x && le x limit

unfoldable pub refuses_angle : Float → Float → Bool
refuses_angle limit x = not (finite x) || not (is_inside limit x)
