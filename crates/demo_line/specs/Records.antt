-- What a record is played to: by `panner`, to 5.1 (document 01, item 4; document 02, E3). Definitions only.
-- A record is an azimuth, eight bytes, then 32 samples of the voice, four bytes each. What is missing of it reads as 0.
use Rattle.std.specs.Prelude.{◌≡◌, ◌∷◌}
use Rattle.lists.specs.Prelude.{ℕ, List, [], flat_map, Float, replicate}
use Rattle.refusals.specs.Refusals.{first_of, ◌when◌, answered}
use Rattle.big_endian.specs.Fields.{double_at}
use Rattle.big_endian.specs.Lists.{floats_at, float_bytes}
use Rattle.channel.specs.declared.Layout.TheVariants.{Surround51}
use Rattle.panner.specs.declared.Command.{Command}
use Rattle.panner.specs.declared.Command.TheVariants.{Surround}
use Rattle.panner.specs.Commands.{angle_refused, gains_of_command, GainsPromised}
use Rattle.panner.specs.Blocks.{PannedShape, frames_panned}
use Rattle.std.specs.Prelude.{Result}
use Rattle.refusals.specs.Numbers.{number_in, value_in}
use Rattle.refusals.specs.declared.Refusal.{Refusal}

-- the azimuth stands first, and the samples behind it
abbrev pub demo_command_at : List ℕ → Command
demo_command_at bytes = Surround (double_at bytes 0)

abbrev pub demo_voice_at : List ℕ → List Float
demo_voice_at bytes = floats_at bytes 8 32

-- what the panner is asked for beside the samples
abbrev pub demo_shape_at : List ℕ → PannedShape
demo_shape_at bytes = record { command = demo_command_at bytes; layout = Surround51; frames = 32; stride = 32 }

-- document 01, 'Refusal numbers', 3: "an angle [..] is NaN or infinite, or azimuth is outside -180..180"
abbrev pub demo_refusal_at : List ℕ → ℕ
demo_refusal_at bytes = first_of (3 when angle_refused (demo_command_at bytes) ∷ [])

-- the frames that the panner plays, one after the other, each a sample of L, R, C, LFE, Ls and Rs; or the refusal and
-- no sound
pub record Placed : Type 0 where
  pub refusal : ℕ
  pub line : List ℕ

abbrev pub line_told : Result (List ℕ) Refusal → Placed
line_told r = record { refusal = number_in r; line = value_in (replicate 768 0) r }

abbrev pub placed_at : List ℕ → Placed
placed_at bytes =
    answered (demo_refusal_at bytes)
    (record { refusal = 0; line = flat_map float_bytes (frames_panned (demo_shape_at bytes) (demo_voice_at bytes)) })
    (λ n. record { refusal = n; line = replicate 768 0 })

-- all that is handed back; and that the gains played are those promised
pub record Places (bytes : List ℕ) (answer : Placed) : Type 0 where
  pub bits : answer ≡ placed_at bytes
  pub words : demo_refusal_at bytes ≡ 0 → GainsPromised (demo_command_at bytes) Surround51
      (gains_of_command (demo_command_at bytes) Surround51)
