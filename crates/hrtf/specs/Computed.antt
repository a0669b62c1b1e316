-- What the functions under `process` ask and leave. Definitions only; they speak of the program, and nobody has to
-- believe them.
use Rattle.std.specs.Prelude.{◌≡◌, ◌*◌, ◌<◌}
use Rattle.lists.specs.Prelude.{ℕ, Bool, false, List, [], length, Float}
use Rattle.formats.specs.Floats.{zero_float}
use Rattle.checks.specs.Finite.{has_nonfinite}
use Rattle.planes.specs.Planes.{with_frame, with_frames}
use Rattle.planes.specs.Sums.{dot}
use Rattle.numbers.specs.Normalization.{inverse_root_of}
use Rattle.hrtf_desk.specs.declared.Desk.{Desk}
use Rattle.hrtf_history.specs.Signals.{damaged}
use Rattle.hrtf_rings.specs.State.{State}
use Rattle.hrtf_rings.specs.Computed.{stored, part_by, ring_ear, ears_by_rings, is_unsettled_by_desk, state_left}
use Rattle.hrtf_rings.specs.Computed.{played_by_rings}
use Rattle.hrtf_rings.specs.Computed.{unsettled_count_by_desk}
use Rattle.hrtf_checks.specs.declared.ConvolverShape.{ConvolverShape}
use Rattle.hrtf_checks.specs.Call.{BlockCall, setup_of, setup, frames_in}
use Rattle.hrtf_checks.specs.Computed.{Ready}
use Rattle.hrtf.specs.declared.frames.Scaled.{Scaled}
use Rattle.hrtf.specs.declared.frames.EarSamples.{EarSamples}
use Rattle.hrtf.specs.declared.parts.EarSums.{EarSums}
use Rattle.hrtf.specs.Promise.{BlockOutcome}

-- a shape with the factor of its ears' sums
abbrev pub scaled_of : ConvolverShape → Scaled
scaled_of h = record { shape = h; inverse_root = inverse_root_of h.speakers }

-- what playing asks: the factor is that of the shape; what an accepted call has made sure of; and that every tap is
-- finite, since 7 was not given
pub record ScaledReady (k : Scaled) (position : ℕ) (rows : List ℕ) (taps rings : List Float) : Type 0 where
  pub factor : k ≡ scaled_of k.shape
  pub ready : Ready k.shape position rows taps rings
  pub finite : has_nonfinite taps ≡ false

-- ---- one speaker

-- taps that go with so many cells: one for each, and each of them finite
pub record TapsFor (cells taps : List Float) : Type 0 where
  pub each : length taps ≡ length cells
  pub finite : has_nonfinite taps ≡ false

-- both sums gone on with, each by its own taps
abbrev pub dot_each : EarSums → List Float → List Float → List Float → EarSums
dot_each sums signals left right =
    record { left = dot sums.left signals left; right = dot sums.right signals right }

abbrev pub no_sums : EarSums
no_sums = record { left = zero_float; right = zero_float }

-- where a speaker's ring stands, and the taps of a row
pub record PartsInside (h : ConvolverShape) (s j : ℕ) (taps rings : List Float) : Type 0 where
  pub ring : s < h.speakers
  pub row : j < h.rows
  pub tapped : length taps ≡ 2 * h.rows * h.length
  pub ringed : length rings ≡ h.speakers * h.length
  pub some : 0 < h.length
  pub finite : has_nonfinite taps ≡ false

-- both ears' parts of speaker s with the taps of row j, where p is the cell that is written next
abbrev pub parts_by : ConvolverShape → ℕ → ℕ → ℕ → List Float → List Float → EarSums
parts_by h p s j taps rings =
    record { left = part_by h.length p s j 0 taps rings; right = part_by h.length p s j 1 taps rings }

-- ---- one frame

-- an ear's sample needs no weights
abbrev pub ear_by : ConvolverShape → List ℕ → List Float → ℕ → ℕ → List Float → Float
ear_by h rows taps side p rings = ring_ear (setup_of h [] rows taps) side p rings

abbrev pub ears_by : ConvolverShape → List ℕ → List Float → ℕ → List Float → EarSamples
ears_by h rows taps p rings = record { left = ear_by h rows taps 0 p rings; right = ear_by h rows taps 1 p rings }

-- what frame n leaves, put behind those before it in the ear planes
pub record FramePlayed (h : ConvolverShape) (weights : List Float) (rows : List ℕ) (taps : List Float) (t : State)
    (f : List Float) (stride n : ℕ) (ears₀ rings₁ ears₁ : List Float) (late bad : Bool) : Type 0 where
  pub ringed : rings₁ ≡ stored (setup_of h weights rows taps) t f
  pub eared : ears₁ ≡ with_frame ears₀ stride n (ears_by_rings (setup_of h weights rows taps) t f)
  pub unsettled : late ≡ is_unsettled_by_desk (setup_of h weights rows taps) t f
  pub damage : bad ≡ damaged (setup_of h weights rows taps) f

-- what the steps of an accepted call make of it: the law `accepted_computed` ties this to the promise, in every state
abbrev pub block_computed : BlockCall → State → BlockOutcome
block_computed c t =
    record {
      answer = record {
        refusal = 0;
        samples = c.frames;
        unsettled = unsettled_count_by_desk (setup c) t (frames_in c);
        desk = (state_left (setup c) t (frames_in c)).desk;
      };
      rings = (state_left (setup c) t (frames_in c)).rings;
      ears = with_frames c.ears c.stride 0 (played_by_rings (setup c) t (frames_in c));
    }

-- what a block leaves
abbrev pub BlockPlayed : BlockCall → State → List Float → List Float → Desk → ℕ → Type 0
BlockPlayed c t rings₁ ears₁ desk₁ more =
    record {
      answer = record { refusal = 0; samples = c.frames; unsettled = more; desk = desk₁ };
      rings = rings₁;
      ears = ears₁;
    } ≡ block_computed c t
