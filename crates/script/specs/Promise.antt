-- All that is handed back for a stretch (`planes`, specs/Blocks.antt). Document 01: "Input samples may be any bit
-- pattern." Definitions only.
use Rattle.std.specs.Prelude.{◌≡◌, ◌∷◌}
use Rattle.lists.specs.Prelude.{ℕ, List, [], length, Float}
use Rattle.planes.specs.Blocks as Blocks
use Rattle.planes.specs.Blocks.{block_of, Played}
use Rattle.channel.specs.declared.Layout.TheVariants.{Mono}
use Rattle.panner.specs.declared.Command.TheVariants.{Ambisonic}
use Rattle.panner.specs.Commands.{gains_of_command, GainsPromised}
use Rattle.cues.specs.declared.Cue.{Cue}
use Rattle.script.specs.Rendering.{Stretch, refusal_of, played_of}

abbrev pub Rendered : Type 0
Rendered = Played

abbrev pub answer_of : ℕ → ℕ → Rendered
answer_of refusal samples = record { refusal = refusal; samples = samples }

-- the answer, and what the output planes hold
abbrev pub RenderedBlock : Type 0
RenderedBlock = Blocks.Block Rendered

abbrev pub rendered_block : Stretch → List Cue → List Float → List Float → RenderedBlock
rendered_block s cues input out =
    block_of answer_of (refusal_of s cues (length input) (length out)) s.frames s.stride (played_of s cues input) out

-- the gains of each cue are those promised
abbrev pub AllPromised : ℕ → List Cue → Type 0
AllPromised order [] = Unit {0}
AllPromised order (c ∷ cs) = GainsPromised (Ambisonic c.direction order) Mono
    (gains_of_command (Ambisonic c.direction order) Mono) × AllPromised order cs

-- all that is handed back; and that the gains played are those promised
pub record RenderPromise (s : Stretch) (cues : List Cue) (input out : List Float) (answer : Rendered)
    (after : List Float) : Type 0 where
  pub bits : record { answer = answer; out = after } ≡ rendered_block s cues input out
  pub words : refusal_of s cues (length input) (length out) ≡ 0 → AllPromised s.order cues
