-- What `panner::process` promises: the answer and every sample of the output planes. Document 01: "Input samples may
-- be any bit pattern." Definitions only.
use Rattle.std.specs.Prelude.{◌≡◌}
use Rattle.lists.specs.Prelude.{ℕ, List, length, Float}
use Rattle.planes.specs.Blocks as Blocks
use Rattle.planes.specs.Blocks.{block_of, Played}
use Rattle.panner.specs.Commands.{gains_of_command, GainsPromised}
use Rattle.panner.specs.Blocks.{PannedShape, refusal_of, frames_panned}

abbrev pub Panned : Type 0
Panned = Played

abbrev pub answer_of : ℕ → ℕ → Panned
answer_of refusal samples = record { refusal = refusal; samples = samples }

-- the answer, and what the output planes hold
abbrev pub PannedBlock : Type 0
PannedBlock = Blocks.Block Panned

abbrev pub panned_block : PannedShape → List Float → List Float → PannedBlock
panned_block s input out =
    block_of answer_of (refusal_of s (length input) (length out)) s.frames s.stride (frames_panned s input) out

-- all that is handed back; and that the gains played are those promised
pub record PannerPromise (s : PannedShape) (input out : List Float) (answer : Panned) (after : List Float) : Type
    0 where
  pub bits : record { answer = answer; out = after } ≡ panned_block s input out
  pub words : refusal_of s (length input) (length out) ≡ 0
      → GainsPromised s.command s.layout (gains_of_command s.command s.layout)
