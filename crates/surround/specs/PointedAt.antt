-- Document 02, E3, "The voice comes from the speaker it doesn't point at", mended: a voice at the azimuth of a speaker
-- is loudest there. Definitions only.
use Rattle.std.specs.Prelude.{◌<◌, ◌≡◌}
use Rattle.lists.specs.Prelude.{ℕ, true, false, eqb}
use Rattle.fractions.specs.Fraction.{whole, square, Same, Less}
use Rattle.channel.specs.Layouts.{channels_of, low_frequency, surround}
use Rattle.channel.specs.declared.Layout.{Layout}
use Rattle.surround.specs.Formula.{speaker_at, raw_at}

-- at the azimuth of the speaker of channel c
pub record Loudest (l : Layout) (c : ℕ) : Type 0 where
  pub itself : Same (raw_at l (speaker_at l c) c) (whole 1)
  pub others : (k : ℕ) → k < channels_of l → eqb k c ≡ false → Less (square (raw_at l (speaker_at l c) k)) (whole 1)

-- every speaker of 5.1 and of 7.1 but the LFE
abbrev pub PointedAt : Type 0
PointedAt = (l : Layout) → surround l ≡ true → (c : ℕ) → c < channels_of l → low_frequency l c ≡ false → Loudest l c
