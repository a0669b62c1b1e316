-- Document 01, 'Sums': "Panner: the f32 product of sample and narrowed gain." 'Refusal numbers': 5 when "a lent length
-- doesn't fit: stride below the frame count, or a length other than planes x stride", 6 when "a panner block has more
-- than 4,096 frames". Definitions only. The input is one plane.
use Rattle.std.specs.Prelude.{◌∷◌, ◌++◌}
use Rattle.lists.specs.Prelude.{ℕ, Bool, List, [], ltb, get_or, Float, nan, binary32, mul}
use Rattle.refusals.specs.Refusals.{Check, first_of, ◌when◌}
use Rattle.numbers.specs.Computed.{narrowed}
use Rattle.lists.specs.Tables.{tab}
use Rattle.checks.specs.Lengths.{block_unfit}
use Rattle.planes.specs.Planes.{sample_at}
use Rattle.channel.specs.declared.Layout.{Layout}
use Rattle.panner.specs.declared.Command.{Command}
use Rattle.panner.specs.Commands.{command_checks, planes_of, gains_of_command}

-- what a block is asked for beside the samples
pub record PannedShape : Type 0 where
  pub command : Command
  pub layout : Layout
  pub frames : ℕ
  pub stride : ℕ

-- the lengths of the input and of the outputs
abbrev pub panner_unfit : ℕ → ℕ → ℕ → ℕ → ℕ → Bool
panner_unfit input out planes stride frames = block_unfit input 1 out planes stride frames

abbrev pub most_frames : ℕ
most_frames = 4096

abbrev pub planes_in : PannedShape → ℕ
planes_in s = planes_of s.command s.layout

-- what is checked of a block: 1, 2 and 3 of its command, then its lengths and its frames
abbrev pub block_checks : PannedShape → ℕ → ℕ → List Check
block_checks s input out =
    5 when panner_unfit input out (planes_in s) s.stride s.frames ∷ 6 when ltb most_frames s.frames ∷ []

abbrev pub refusal_of : PannedShape → ℕ → ℕ → ℕ
refusal_of s input out = first_of (command_checks s.command s.layout ++ block_checks s input out)

-- ---- what is played

abbrev pub narrowed_all : List Float → List Float
narrowed_all gains = tab 0 16 (λ p. narrowed (get_or gains p nan))

-- one sample, times the gain of each plane
abbrev pub panned : ℕ → List Float → Float → List Float
panned planes gains x = tab 0 planes (λ p. mul binary32 x (get_or gains p nan))

-- frame n of the outputs, of sample n of the input
abbrev pub panned_frames : ℕ → ℕ → ℕ → List Float → List Float → List (List Float)
panned_frames stride frames planes gains input = tab 0 frames (λ n. panned planes gains (sample_at input stride 0 n))

abbrev pub frames_panned : PannedShape → List Float → List (List Float)
frames_panned s input =
    panned_frames s.stride s.frames (planes_in s) (narrowed_all (gains_of_command s.command s.layout)) input
