-- Document 01, 'Gains', decoder matrix: "LFE takes the 0 degree row. Stereo is 30, -30; Mono 0; Custom speaker i sits
-- at i x (360/n) - 90, each operation rounded once." Definitions only. An azimuth above 180 is turned back by 360, so
-- that it is one that the harmonics take; the defined sine and cosine reduce by 360 anyway.
use Rattle.lists.specs.Prelude.{ℕ, cond, pos, Float, binary64, sub, mul, div, lt}
use Rattle.formats.specs.Floats.{zero_float, float}
use Rattle.channel.specs.declared.Layout.{Layout}
use Rattle.channel.specs.declared.Layout.TheVariants.{Mono, Stereo, Surround51, Surround71, Custom}
use Rattle.channel.specs.Layouts.{channels_of, azimuth_of}
use Rattle.harmonics.specs.declared.Direction.{Direction}

unfoldable pub custom_azimuth : ℕ → ℕ → Float
custom_azimuth n i =
    sub binary64 (mul binary64 (float (pos i)) (div binary64 (float (pos 360)) (float (pos n)))) (float (pos 90))

unfoldable pub turned_back : Float → Float
turned_back a = cond (lt (float (pos 180)) a) (sub binary64 a (float (pos 360))) a

-- speaker i of n
abbrev pub azimuth_by : Layout → ℕ → ℕ → Float
azimuth_by Mono n i = azimuth_of Mono i
azimuth_by Stereo n i = azimuth_of Stereo i
azimuth_by Surround51 n i = azimuth_of Surround51 i
azimuth_by Surround71 n i = azimuth_of Surround71 i
azimuth_by (Custom m) n i = turned_back (custom_azimuth n i)

abbrev pub azimuth_at : Layout → ℕ → Float
azimuth_at l i = azimuth_by l (channels_of l) i

-- the direction of a speaker: none is above or below
abbrev pub towards : Float → Direction
towards a = record { azimuth = a; elevation = zero_float }
