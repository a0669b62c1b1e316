-- Document 01, item 2: "Layouts: Mono, Stereo, Surround51, Surround71, Custom(n) with n 1..16"; 'Gains', surround:
-- "speakers, in channel order. 5.1: 30, -30, 0, LFE, 110, -110. 7.1: 30, -30, 0, LFE, 90, -90, 150, -150"; decoder:
-- "LFE takes the 0 degree row. Stereo is 30, -30; Mono 0"; and the eight positions of 003. Definitions only. Angles are
-- whole degrees.
use Rattle.std.specs.Prelude.{◌-◌, ◌∷◌, ◌*ℤ◌}
use Rattle.lists.specs.Prelude.{ℕ, Bool, true, false, cond, List, [], eqb, leb, ℤ, pos, negsuc, length, get_or, Float}
use Rattle.lists.specs.Prelude.{ltb}
use Rattle.formats.specs.Floats.{zero_float, float}
use Rattle.refusals.specs.Refusals.{first_of, ◌when◌, answered, outside}
use Rattle.std.specs.Prelude.{Result, Option, Some, None}
use Rattle.refusals.specs.Numbers.{number_in, value_in}
use Rattle.refusals.specs.declared.Refusal.{Refusal}
use Rattle.channel.specs.declared.Layout.{Layout}
use Rattle.channel.specs.declared.Layout.TheVariants.{Mono, Stereo, Surround51, Surround71, Custom}

-- ---- what is answered: a refusal number, 0 where it is accepted, and beside it how many channels, or where a speaker
-- stands in degrees or tenths; nothing beside a refusal

pub record CountTold : Type 0 where
  pub refusal : ℕ
  pub channels : ℕ

pub record Angle : Type 0 where
  pub refusal : ℕ
  pub degrees : Float

pub record Tenths : Type 0 where
  pub refusal : ℕ
  pub tenths : ℤ

abbrev pub count_told : Result ℕ Refusal → CountTold
count_told r = record { refusal = number_in r; channels = value_in 0 r }

abbrev pub angle_told : Result Float Refusal → Angle
angle_told r = record { refusal = number_in r; degrees = value_in zero_float r }

abbrev pub tenths_told : Result ℤ Refusal → Tenths
tenths_told r = record { refusal = number_in r; tenths = value_in (pos 0) r }

-- ---- layouts

abbrev pub channels_of : Layout → ℕ
channels_of Mono = 1
channels_of Stereo = 2
channels_of Surround51 = 6
channels_of Surround71 = 8
channels_of (Custom n) = n

-- a number of channels that no layout has: 0, or above 16. Only a Custom can have it.
abbrev pub refuses_channels : ℕ → Bool
refuses_channels n = outside n 16

-- n channels; or, where they are refused, the refusal and none
abbrev pub channels_answer : ℕ → Bool → ℕ → CountTold
channels_answer refusal refused n =
    answered (first_of (refusal when refused ∷ [])) (record { refusal = 0; channels = n })
    (λ k. record { refusal = k; channels = 0 })

abbrev pub layout_channels : Layout → CountTold
layout_channels l = channels_answer 2 (refuses_channels (channels_of l)) (channels_of l)

abbrev pub surround : Layout → Bool
surround Surround51 = true
surround Surround71 = true
surround Mono = false
surround Stereo = false
surround (Custom n) = false

-- the LFE is channel 3 of 5.1 and of 7.1
abbrev pub low_frequency : Layout → ℕ → Bool
low_frequency l c = cond (surround l) (eqb c 3) false

-- -n, for an n above 0
abbrev pub minus : ℕ → ℤ
minus n = negsuc (n - 1)

-- where the speakers of a layout stand, in channel order; the LFE, which points nowhere, counts as 0 where an angle is
-- wanted. The speakers of a Custom layout are computed.
abbrev pub speakers : Layout → List ℤ
speakers Mono = pos 0 ∷ []
speakers Stereo = pos 30 ∷ minus 30 ∷ []
speakers Surround51 = pos 30 ∷ minus 30 ∷ pos 0 ∷ pos 0 ∷ pos 110 ∷ minus 110 ∷ []
speakers Surround71 = pos 30 ∷ minus 30 ∷ pos 0 ∷ pos 0 ∷ pos 90 ∷ minus 90 ∷ pos 150 ∷ minus 150 ∷ []
speakers (Custom n) = []

-- the eight positions of the virtual speakers
abbrev pub positions : List ℤ
positions = pos 0 ∷ pos 45 ∷ pos 90 ∷ pos 135 ∷ pos 180 ∷ minus 135 ∷ minus 90 ∷ minus 45 ∷ []

-- place i of a table, and 0 beyond its end: "A refusal returns its number, [..] 0.0 for any number"
abbrev pub degrees_at : List ℤ → ℕ → ℤ
degrees_at table i = get_or table i (pos 0)

-- place i, where the table has it
abbrev pub entry_at : List ℤ → ℕ → Option ℤ
entry_at table i = cond (ltb i (length table)) (Some (degrees_at table i)) None

-- "the layout isn't one the operation offers", or a count is out of its range: the table has no such place. No place of
-- a Custom layout is in it.
abbrev pub missing : List ℤ → ℕ → ℕ
missing table i = first_of (2 when leb (length table) i ∷ [])

-- the speaker of channel c: in whole degrees, as an f64, and in whole tenths
abbrev pub degrees_of : Layout → ℕ → ℤ
degrees_of l c = degrees_at (speakers l) c

abbrev pub azimuth_of : Layout → ℕ → Float
azimuth_of l c = float (degrees_of l c)

abbrev pub tenths_of : Layout → ℕ → ℤ
tenths_of l c = degrees_of l c *ℤ pos 10

abbrev pub azimuth_answer : Layout → ℕ → Angle
azimuth_answer l c = answered (missing (speakers l) c) (record { refusal = 0; degrees = azimuth_of l c })
    (λ n. record { refusal = n; degrees = zero_float })

abbrev pub tenths_answer : Layout → ℕ → Tenths
tenths_answer l c = answered (missing (speakers l) c) (record { refusal = 0; tenths = tenths_of l c })
    (λ n. record { refusal = n; tenths = pos 0 })

-- virtual speaker i: the same
abbrev pub position_azimuth : ℕ → Float
position_azimuth i = float (degrees_at positions i)

abbrev pub position_tenths : ℕ → ℤ
position_tenths i = degrees_at positions i *ℤ pos 10

abbrev pub position_azimuth_answer : ℕ → Angle
position_azimuth_answer i = answered (missing positions i) (record { refusal = 0; degrees = position_azimuth i })
    (λ n. record { refusal = n; degrees = zero_float })

abbrev pub position_tenths_answer : ℕ → Tenths
position_tenths_answer i = answered (missing positions i) (record { refusal = 0; tenths = position_tenths i })
    (λ n. record { refusal = n; tenths = pos 0 })
