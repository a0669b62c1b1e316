-- Document 02, E1: "before the first cue every output is 0.0. Frame numbers are 64-bit; a stretch that would run past
-- the largest is 5, one above 4,096 frames 6." "Refusals: 11 a list whose frames don't rise strictly, 12 a list longer
-- than 256, after 10." What is played at a direction, and how many frames a block may have, are the panner's own words.
-- Definitions only. The input is one plane.
use Rattle.std.specs.Prelude.{◌+◌, ◌-◌, ◌^◌, ◌||◌, ◌∷◌}
use Rattle.lists.specs.Prelude.{ℕ, Bool, not, List, [], ltb, length, Float}
use Rattle.refusals.specs.Refusals.{Check, first_of, ◌when◌}
use Rattle.formats.specs.Floats.{zero_float}
use Rattle.lists.specs.Tables.{tab, any}
use Rattle.planes.specs.Planes.{sample_at}
use Rattle.channel.specs.Orders.{refuses_order, channels_of_order}
use Rattle.channel.specs.declared.Layout.TheVariants.{Mono}
use Rattle.panner.specs.declared.Command.TheVariants.{Ambisonic}
use Rattle.panner.specs.Commands.{gains_of_command}
use Rattle.panner.specs.Blocks.{panner_unfit, most_frames, narrowed_all, panned}
use Rattle.cues.specs.declared.Cue.{Cue}
use Rattle.cues.specs.Cues.{Voice, nobody, speaking, numbers_of, refused_each, rises, voice_at}

-- what a stretch is asked for beside the cues and the samples
pub record Stretch : Type 0 where
  pub order : ℕ
  pub first : ℕ
  pub frames : ℕ
  pub stride : ℕ

-- ---- refusals

-- frame numbers are 64-bit: the last is first + frames - 1, and may be 2 ^ 64 - 1
abbrev pub runs_past : ℕ → ℕ → Bool
runs_past first frames = ltb (2 ^ 64) (first + frames)

abbrev pub most_cues : ℕ
most_cues = 256

-- what is checked, in this order; of the cues whether one has a direction that is refused, whether they rise, and how
-- many there are
abbrev pub checks_of : Stretch → Bool → Bool → ℕ → ℕ → ℕ → List Check
checks_of s refused rising count input out =
    1 when refuses_order s.order
    ∷ 3 when refused
    ∷ 5 when (panner_unfit input out (channels_of_order s.order) s.stride s.frames
    || runs_past s.first s.frames)
    ∷ 6 when ltb most_frames s.frames
    ∷ 11 when not rising
    ∷ 12 when ltb most_cues count
    ∷ []

-- 3 looks at every cue, whether the stretch reaches it or not
abbrev pub refusal_of : Stretch → List Cue → ℕ → ℕ → ℕ
refusal_of s cues input out =
    first_of (checks_of s (any (refused_each cues)) (rises (numbers_of cues)) (length cues) input out)

-- ---- what is played

-- 0.0 in each plane, whatever the sample
abbrev pub silent : ℕ → List Float
silent planes = tab 0 planes (λ p. zero_float)

abbrev pub silent_part : ℕ → ℕ → ℕ → List (List Float)
silent_part from to planes = tab from (to - from) (λ n. silent planes)

-- one sample, by the voice: at a direction what the panner plays at its command
abbrev pub spoken : ℕ → Voice → Float → List Float
spoken order nobody x = silent (channels_of_order order)
spoken order (speaking d) x =
    panned (channels_of_order order) (narrowed_all (gains_of_command (Ambisonic d order) Mono)) x

-- one sample after another, from the frame f on
abbrev pub rendered : List Cue → ℕ → ℕ → List Float → List (List Float)
rendered cues order f [] = []
rendered cues order f (x ∷ xs) = spoken order (voice_at cues f) x ∷ rendered cues order (f + 1) xs

-- the samples of a stretch
abbrev pub samples_of : Stretch → List Float → List Float
samples_of s input = tab 0 s.frames (sample_at input s.stride 0)

abbrev pub played_of : Stretch → List Cue → List Float → List (List Float)
played_of s cues input = rendered cues s.order s.first (samples_of s input)
