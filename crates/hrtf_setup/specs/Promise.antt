-- What the two set-ups promise. Definitions only.
use Rattle.std.specs.Prelude.{◌+◌, ◌*◌, ◌<◌, ◌≡◌}
use Rattle.lists.specs.Prelude.{ℕ, not, List, ℤ, get_or, Float, nan}
use Rattle.refusals.specs.Refusals.{◌when◌}
use Rattle.fractions.specs.Fraction.{number, EachWithin}
use Rattle.channel.specs.declared.Layout.{Layout}
use Rattle.channel.specs.Layouts.{channels_of, surround}
use Rattle.channel.specs.Orders.{refuses_order, channels_of_order}
use Rattle.bank_choice.specs.Nearest.{Takes}
use Rattle.virtual_speaker.specs.Weights.{weighted_formulas}
use Rattle.virtual_speaker.specs.Promise.{weight_bits, outcome, position_of}
use Rattle.hrtf_setup.specs.declared.Speakers.TheVariants.{Of, Virtual}
use Rattle.hrtf_setup.specs.Speakers.{tenths_at, speaker_elevation, row_at, weight_of}
use Rattle.hrtf_setup.specs.Arrangement.{Wanted, refusal_of, Arrangement, arrangement}

-- of a set-up that is accepted: every weight is its speaker's for its channel, and the row that the equation puts for a
-- speaker is the one that documents 01 and 02 name for its azimuth and elevation
pub record ArrangeWords (w : Wanted) (azimuths elevations : List ℤ) (rows : ℕ) (weights : List Float)
    (o : Arrangement) : Type 0 where
  pub weighs : refusal_of w azimuths elevations rows weights ≡ 0 → (s c : ℕ) → s < w.speakers → c < w.channels
      → get_or o.weights (s * w.channels + c) nan ≡ weight_of w.whose s c
  pub takes : refusal_of w azimuths elevations rows weights ≡ 0 → (s : ℕ)
      → Takes azimuths elevations rows (tenths_at w.whose s) speaker_elevation
      (row_at w.whose azimuths elevations rows s)

pub record ArrangePromise (w : Wanted) (azimuths elevations : List ℤ) (rows : ℕ) (weights : List Float) (given : List ℕ)
    (o : Arrangement) : Type 0 where
  pub bits : o ≡ arrangement w azimuths elevations rows weights given
  pub words : ArrangeWords w azimuths elevations rows weights o

-- 2: "the layout isn't one the operation offers"; a speaker for each channel
abbrev pub of_layout : Layout → Wanted
of_layout l = record {
  check = 2 when not (surround l);
  whose = Of l;
  speakers = channels_of l;
  channels =
      channels_of l;
}

-- 1: "ambisonic order is not 1, 2 or 3"; eight speakers, and the order's channels
abbrev pub of_order : ℕ → Wanted
of_order order =
    record {
      check = 1 when refuses_order order;
      whose = Virtual order;
      speakers = 8;
      channels =
          channels_of_order order;
    }

abbrev pub NewSurroundPromise : Layout → List ℤ → List ℤ → ℕ → List Float → List ℕ → Arrangement → Type 0
NewSurroundPromise l azimuths elevations rows weights given o = ArrangePromise (of_layout l) azimuths elevations rows
    weights given o

-- and each weighted coefficient is near its formula
pub record NewAmbisonicWords (order : ℕ) (azimuths elevations : List ℤ) (rows : ℕ) (weights : List Float)
    (o : Arrangement) : Type 0 where
  pub arranges : ArrangeWords (of_order order) azimuths elevations rows weights o
  pub near : refusal_of (of_order order) azimuths elevations rows weights ≡ 0 → (s : ℕ)
      → EachWithin weight_bits (outcome order (position_of s)).weights
      (weighted_formulas order (number (position_of s).azimuth) (number (position_of s).elevation))

pub record NewAmbisonicPromise (order : ℕ) (azimuths elevations : List ℤ) (rows : ℕ) (weights : List Float)
    (given : List ℕ)
    (o : Arrangement) : Type 0 where
  pub bits : o ≡ arrangement (of_order order) azimuths elevations rows weights given
  pub words : NewAmbisonicWords order azimuths elevations rows weights o
