-- Document 01, 'Sums': "A surround weight is 1.0 at its own channel and 0.0 elsewhere", "LFE uses the 0 degree
-- filters"; the virtual speakers of 003 stand at eight positions, and their weights are the weighted coefficients
-- there. Where the speakers stand, the bank row of each, and its weights. Definitions only.
use Rattle.std.specs.Prelude.{◌/◌, ◌%◌}
use Rattle.lists.specs.Prelude.{ℕ, cond, List, eqb, ℤ, pos, get_or, sets, Float, nan}
use Rattle.formats.specs.Floats.{zero_float, one_float}
use Rattle.lists.specs.Tables.{tab}
use Rattle.channel.specs.Layouts.{tenths_of, position_tenths}
use Rattle.bank_choice.specs.Choice.{choice_of}
use Rattle.virtual_speaker.specs.Promise.{outcome, position_of}
use Rattle.hrtf_setup.specs.declared.Speakers.{Speakers}
use Rattle.hrtf_setup.specs.declared.Speakers.TheVariants.{Of, Virtual}

-- in whole tenths; the LFE of a layout counts as 0
abbrev pub tenths_at : Speakers → ℕ → ℤ
tenths_at (Of l) s = tenths_of l s
tenths_at (Virtual order) s = position_tenths s

-- the speakers of a layout, its LFE and the eight positions all stand at elevation 0
abbrev pub speaker_elevation : ℤ
speaker_elevation = pos 0

-- the row that row choice gives to speaker s, among the first rows of lists of azimuths and elevations
abbrev pub row_at : Speakers → List ℤ → List ℤ → ℕ → ℕ → ℕ
row_at k azimuths elevations rows s = (choice_of azimuths elevations rows (tenths_at k s) speaker_elevation).row

-- the rows of n speakers, put at the start of a list; what stands beyond them stays
abbrev pub rows_of : Speakers → ℕ → List ℤ → List ℤ → ℕ → List ℕ → List ℕ
rows_of k n azimuths elevations rows given = sets given 0 (tab 0 n (row_at k azimuths elevations rows))

-- 1.0 at the own channel, 0.0 elsewhere
abbrev pub one_if : ℕ → ℕ → Float
one_if s c = cond (eqb s c) one_float zero_float

-- speaker s's weight for channel c
abbrev pub weight_of : Speakers → ℕ → ℕ → Float
weight_of (Of l) s c = one_if s c
weight_of (Virtual order) s c = get_or (outcome order (position_of s)).weights c nan

-- the weights are speakers x channels: at place i of n channels stands that of channel i % n for speaker i / n
abbrev pub weight_at : Speakers → ℕ → ℕ → Float
weight_at k n i = weight_of k (i / n) (i % n)
