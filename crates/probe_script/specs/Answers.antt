-- What is answered to a request for a stretch of a drill script (docs/PROBE.md, operation 21), in its words and order.
-- Definitions only.
use Rattle.std.specs.Prelude.{◌+◌, ◌*◌, ◌&&◌}
use Rattle.lists.specs.Prelude.{ℕ, Bool, cond, List, eqb, leb, take, drop, replicate, Float}
use Rattle.big_endian.specs.Fields.{field_at, float_at, double_at}
use Rattle.big_endian.specs.Lists.{strided, floats_at}
use Rattle.cues.specs.declared.Cue.{Cue}
use Rattle.script.specs.Rendering.{Stretch}
use Rattle.script.specs.Promise.{RenderedBlock, rendered_block}
use Rattle.probe_request.specs.Requests.{samples_lent, lent_by}
use Rattle.probe_answer.specs.Answers.{Draft, none, taking, played}

-- "order, first, frames, stride (8 each)"
abbrev pub stretch_at : List ℕ → Stretch
stretch_at args = record {
  order = field_at args 10 8;
  first = field_at args 18 8;
  frames = field_at args 26 8;
  stride = field_at args 34 8;
}

-- then "held (f32, 4): what every output sample holds before the call"
abbrev pub held_at : List ℕ → Float
held_at args = float_at args 42

-- then c times "frame (8), azimuth and elevation (f64, 8 each)"
abbrev pub cue_at : List ℕ → ℕ → Cue
cue_at args at = record {
  frame = field_at args at 8;
  direction = record { azimuth = double_at args (at + 8); elevation = double_at args (at + 16) };
}

abbrev pub cues_at : List ℕ → ℕ → List Cue
cues_at args c = strided (cue_at args) 24 46 c

-- then "the i samples (f32, 4 each)"
abbrev pub rendered : List ℕ → ℕ → ℕ → List Float → RenderedBlock
rendered args c i planes = rendered_block (stretch_at args) (cues_at args c) (floats_at args (46 + 24 * c) i) planes

-- "output samples at .. at + n - 1"
abbrev pub shown : ℕ → ℕ → List Float → List Float
shown at n planes = take n (drop at planes)

-- "refusal (1), samples (8)", and these
unfoldable pub rendered_answer : List ℕ → ℕ → ℕ → List Float → ℕ → ℕ → List ℕ → Draft
rendered_answer args c i planes at n out = played (rendered args c i planes).answer.refusal
    (rendered args c i planes).answer.samples (shown at n (rendered args c i planes).out) out

-- "No answer is given, [..] to more than 257 cues or 16,400 outputs, and to a window that does not lie inside the
-- outputs lent."
abbrev pub fits : ℕ → ℕ → ℕ → ℕ → Bool
fits c o at n = leb c 257 && (leb o 16400 && leb (at + n) o)

-- nor where the arguments have another length
abbrev pub script_lent : List ℕ → ℕ → ℕ → ℕ → ℕ → ℕ → List ℕ → Draft
script_lent args c i o at n out = cond (fits c o at n)
    (taking (46 + 24 * c + 4 * i) args out (rendered_answer args c i (replicate o (held_at args)) at n out)) (none out)

-- "c: cues, i: input samples lent, o: output samples lent, at: the first output sample to show, n: how many to show (2
-- each)"; "n counts as 16,380 where it is more"
unfoldable pub script_answer : List ℕ → List ℕ → Draft
script_answer args out =
    script_lent args (field_at args 0 2) (samples_lent args 2) (field_at args 4 2) (field_at args 6 2)
    (lent_by args 8 2 16380) out

-- no other operation is answered here
abbrev pub answer_of : ℕ → List ℕ → List ℕ → Draft
answer_of operation args out = cond (eqb operation 21) (script_answer args out) (none out)
