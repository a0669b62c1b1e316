-- What is answered to requests for blocks (docs/PROBE.md, operations 14 and 16), in its words and order. Definitions
-- only.
use Rattle.std.specs.Prelude.{◌+◌, ◌*◌}
use Rattle.lists.specs.Prelude.{ℕ, cond, List, eqb, Float}
use Rattle.big_endian.specs.Fields.{field_at, double_at}
use Rattle.big_endian.specs.Lists.{floats_at, doubles_at}
use Rattle.panner.specs.declared.Command.{Command}
use Rattle.panner.specs.declared.Command.TheVariants.{Stereo, Surround, Ambisonic}
use Rattle.panner.specs.Blocks as Panner
use Rattle.panner.specs.Promise as Panning
use Rattle.ambisonic_decoder.specs.Promise as Decoding
use Rattle.probe_request.specs.Requests.{layout_at, samples_lent, weights_lent}
use Rattle.probe_answer.specs.Answers.{Draft, none, taking, played}

-- ---- 14 panner block

-- "A command is 0 for a stereo position, 1 for a surround azimuth, any other number for a direction with an order."
abbrev pub command_of : ℕ → Float → Float → ℕ → Command
command_of which angle elevation order =
    cond (eqb which 0) (Stereo angle) (cond (eqb which 1) (Surround angle) (Ambisonic (record {
      azimuth =
          angle;
      elevation = elevation;
    }) order))

-- "command (1), position or azimuth, elevation (f64, 8 each), order (8)"
abbrev pub command_at : List ℕ → Command
command_at args = command_of (field_at args 4 1) (double_at args 5) (double_at args 13) (field_at args 21 8)

-- then "layout (9), frames, stride (8 each)"
abbrev pub pan_at : List ℕ → Panner.PannedShape
pan_at args = record {
  command = command_at args;
  layout = layout_at args 29;
  frames = field_at args 38 8;
  stride = field_at args 46 8;
}

-- then "the i and the o samples (f32, 4 each)"
abbrev pub panned : List ℕ → ℕ → ℕ → Panning.PannedBlock
panned args i o = Panning.panned_block (pan_at args) (floats_at args 54 i) (floats_at args (54 + 4 * i) o)

-- "refusal (1), samples (8), the o samples"
unfoldable pub panned_answer : List ℕ → ℕ → ℕ → List ℕ → Draft
panned_answer args i o out =
    played (panned args i o).answer.refusal (panned args i o).answer.samples (panned args i o).out out

-- of so many samples lent, no answer where the arguments have another length
abbrev pub pan_lent : List ℕ → ℕ → ℕ → List ℕ → Draft
pan_lent args i o out = taking (54 + 4 * i + 4 * o) args out (panned_answer args i o out)

-- "i, o: input and output samples lent (2 each)"
unfoldable pub pan_answer : List ℕ → List ℕ → Draft
pan_answer args out = pan_lent args (samples_lent args 0) (samples_lent args 2) out

-- ---- 16 decoder block

-- "outputs, channels, frames, stride (8 each), the w weights (f64, 8 each), the i and the o samples (f32, 4 each)"
abbrev pub decoded : List ℕ → ℕ → ℕ → ℕ → Decoding.DecodedBlock
decoded args w i o =
    Decoding.decoded_block (doubles_at args 38 w) (record {
      outputs =
          field_at args 6 8;
      channels = field_at args 14 8;
      frames = field_at args 22 8;
      stride = field_at args 30 8;
    })
    (floats_at args (38 + 8 * w) i) (floats_at args (38 + 8 * w + 4 * i) o)

-- answered likewise
unfoldable pub decoded_answer : List ℕ → ℕ → ℕ → ℕ → List ℕ → Draft
decoded_answer args w i o out =
    played (decoded args w i o).answer.refusal (decoded args w i o).answer.samples (decoded args w i o).out out

abbrev pub decode_lent : List ℕ → ℕ → ℕ → ℕ → List ℕ → Draft
decode_lent args w i o out = taking (38 + 8 * w + 4 * i + 4 * o) args out (decoded_answer args w i o out)

-- "w, i, o: weights, input samples and output samples lent (2 each)"
unfoldable pub decode_answer : List ℕ → List ℕ → Draft
decode_answer args out = decode_lent args (weights_lent args 0) (samples_lent args 2) (samples_lent args 4) out

-- ----

-- no other operation is answered here
abbrev pub answer_of : ℕ → List ℕ → List ℕ → Draft
answer_of operation args out =
    cond (eqb operation 14) (pan_answer args out) (cond (eqb operation 16) (decode_answer args out) (none out))
