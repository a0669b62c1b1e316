-- All that is handed back for a block (`planes`, specs/Blocks.antt). Definitions only.
use Rattle.std.specs.Prelude.{◌≡◌}
use Rattle.lists.specs.Prelude.{ℕ, List, length, Float}
use Rattle.planes.specs.Blocks as Blocks
use Rattle.planes.specs.Blocks.{block_of, Played}
use Rattle.ambisonic_decoder.specs.declared.DecoderShape.{DecoderShape}
use Rattle.ambisonic_decoder.specs.Blocks.{refusal_of, decoded}

abbrev pub Decoded : Type 0
Decoded = Played

abbrev pub answer_of : ℕ → ℕ → Decoded
answer_of refusal samples = record { refusal = refusal; samples = samples }

-- the answer, and what the output planes hold
abbrev pub DecodedBlock : Type 0
DecodedBlock = Blocks.Block Decoded

abbrev pub decoded_block : List Float → DecoderShape → List Float → List Float → DecodedBlock
decoded_block weights s inputs out = block_of answer_of (refusal_of s weights (length inputs) (length out)) s.frames
    s.stride
    (decoded s weights inputs) out

abbrev pub DecoderPromise : List Float → DecoderShape → List Float → List Float → Decoded → List Float → Type 0
DecoderPromise weights s inputs out answer after = record { answer = answer; out = after } ≡ decoded_block weights s
    inputs out
