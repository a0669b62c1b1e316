-- Document 01, 'Gains', surround: "speakers, in channel order", and each raw gain "divided by the root of the sum of
-- squares". With the azimuth exchanged left for right each speaker has the gain that the speaker across had, bit for
-- bit: of the raw gains in both layouts, of the gains in 5.1. In 7.1 not so far back that both rear speakers sound with
-- a side one: their squares are then added the other way round. Shown in proofs/Surround.antt, and refuted behind that
-- in proofs/RefutedOrder.antt. Definitions only.
use Rattle.std.specs.Prelude.{◌≡◌}
use Rattle.lists.specs.Prelude.{ℕ, true, false, pos, get_or, Float, neg}
use Rattle.formats.specs.Floats.{zero_float, float}
use Rattle.angles.specs.Limits.{refuses_angle}
use Rattle.channel.specs.Layouts.{surround}
use Rattle.channel.specs.declared.Layout.{Layout}
use Rattle.channel.specs.declared.Layout.TheVariants.{Surround51, Surround71}
use Rattle.surround.specs.Computed.{channel_gain}
use Rattle.surround.specs.Promise.{outcome}
use Rattle.mirror.specs.Partners.{across_from}

-- at every float
abbrev pub RawGainsExchanged : Type 0
RawGainsExchanged =
    (l : Layout) → surround l ≡ true → (a : Float) (c : ℕ) → channel_gain l (neg a) (across_from c) ≡ channel_gain l a c

-- the answer at the opposite azimuth, refused or not, has the refusal and the gains of the speakers across
pub record GainsExchanged (l : Layout) (a : Float) : Type 0 where
  pub refusal : (outcome l (neg a)).refusal ≡ (outcome l a).refusal
  pub gains : (c : ℕ) → get_or (outcome l (neg a)).gains (across_from c) zero_float
      ≡ get_or (outcome l a).gains c zero_float

-- both rear speakers of 7.1 sound behind it
abbrev pub rear_limit : Float
rear_limit = float (pos 120)

pub record SurroundExchanged : Type 0 where
  pub five_one : (a : Float) → GainsExchanged Surround51 a
  -- as far as that limit either way
  pub seven_one : (a : Float) → refuses_angle rear_limit a ≡ false → GainsExchanged Surround71 a
