-- Document 01: "A panner command is a stereo position, a surround azimuth, or a direction with an order." What each
-- refuses ('Refusal numbers' 1, 2 and 3: "The panner offers Surround51 and Surround71 for surround"; Custom 0 or above
-- 16 is 2 wherever a layout is handed in), how many planes it plays to, and with which gains ('Gains'). Definitions
-- only.
use Rattle.std.specs.Prelude.{◌∷◌}
use Rattle.lists.specs.Prelude.{ℕ, Bool, false, not, List, [], get_or, replicate, Float}
use Rattle.refusals.specs.Refusals.{Check, ◌when◌}
use Rattle.channel.specs.Layouts.{channels_of, refuses_channels, surround}
use Rattle.channel.specs.Orders.{refuses_order, channels_of_order}
use Rattle.channel.specs.declared.Layout.{Layout}
use Rattle.formats.specs.Floats.{zero_float}
use Rattle.stereo.specs.Promise as Stereo
use Rattle.surround.specs.Promise as Surround
use Rattle.harmonics.specs.Promise as Harmonics
use Rattle.panner.specs.declared.Command.{Command}
use Rattle.panner.specs.declared.Command.TheVariants.{Stereo, Surround, Ambisonic}

-- 1
abbrev pub order_refused : Command → Bool
order_refused (Stereo p) = false
order_refused (Surround a) = false
order_refused (Ambisonic d n) = refuses_order n

-- 2
abbrev pub layout_refused : Command → Layout → Bool
layout_refused (Stereo p) l = refuses_channels (channels_of l)
layout_refused (Surround a) l = not (surround l)
layout_refused (Ambisonic d n) l = refuses_channels (channels_of l)

-- 3
abbrev pub angle_refused : Command → Bool
angle_refused (Stereo p) = Stereo.is_refused p
angle_refused (Surround a) = Harmonics.refuses_azimuth a
angle_refused (Ambisonic d n) = Harmonics.refuses_direction d

-- what is checked of a command
abbrev pub command_checks : Command → Layout → List Check
command_checks c l = 1 when order_refused c ∷ 2 when layout_refused c l ∷ 3 when angle_refused c ∷ []

abbrev pub planes_of : Command → Layout → ℕ
planes_of (Stereo p) l = 2
planes_of (Surround a) l = channels_of l
planes_of (Ambisonic d n) l = channels_of_order n

-- sixteen places, of which the first planes_of are played
abbrev pub gains_of_command : Command → Layout → List Float
gains_of_command (Stereo p) l = (Stereo.outcome p).left ∷ (Stereo.outcome p).right ∷ replicate 14 zero_float
gains_of_command (Surround a) l = (Surround.outcome l a).gains
gains_of_command (Ambisonic d n) l = (Harmonics.outcome n d).gains

-- what is promised of them, and how near they are to document 01's formulas
abbrev pub GainsPromised : Command → Layout → List Float → Type 0
GainsPromised (Stereo p) l g =
    Stereo.StereoPromise p (record { refusal = 0; left = get_or g 0 zero_float; right = get_or g 1 zero_float })
GainsPromised (Surround a) l g = Surround.SurroundPromise l a (record { refusal = 0; gains = g })
GainsPromised (Ambisonic d n) l g = Harmonics.HarmonicsPromise n d (record { refusal = 0; gains = g })
