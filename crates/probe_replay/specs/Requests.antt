-- What stands in a request for the replay of a recorded line (docs/PROBE.md, 'Operations', 22). Its first 138 bytes are
-- those of a block (`probe_hrtf`). Definitions only.
use Rattle.std.specs.Prelude.{◌+◌, ◌*◌}
use Rattle.lists.specs.Prelude.{ℕ, cond, List, eqb}
use Rattle.big_endian.specs.Fields.{field_at}
use Rattle.big_endian.specs.Lists.{strided}
use Rattle.stamps.specs.Arrivals.{Expected}
use Rattle.std.specs.Prelude.{None, Some}
use Rattle.replay.specs.Recording.{Recording}
use Rattle.replay.specs.Promise.{ReplayOutcome, outcome}
use Rattle.probe_request.specs.Requests.{eight_at, word_at}
use Rattle.probe_hrtf.specs.Requests.{shape_at, state_of, Lengths, Lists, lists_end, lists_at}

-- "expected: 0 where none is, any other number where the next four bytes are (1), that stamp (4)"
abbrev pub expected_at : List ℕ → Expected
expected_at args = cond (eqb (field_at args 148 1) 0) None (Some (field_at args 149 4))

-- "the s stamps (4 each)", behind the five lists, and where they end
abbrev pub stamps_from : Lengths → ℕ
stamps_from n = lists_end 153 n

abbrev pub line_end : Lengths → ℕ → ℕ
line_end n s = stamps_from n + 4 * s

abbrev pub stamps_at : List ℕ → Lengths → ℕ → List ℕ
stamps_at args n s = strided (word_at args) 4 (stamps_from n) s

-- what is handed to `replay`: "frames, stride (8 each), the bank row of each of eight speakers (8 each)", "ear stride
-- (8)", beside the lists; and what it makes of that
abbrev pub line_of : List ℕ → Lists → List ℕ → Recording
line_of args l stamps =
    record {
      shape = shape_at args;
      frames = field_at args 58 8;
      stride = field_at args 66 8;
      stamps = stamps;
      inputs = l.inputs;
      weights = l.weights;
      rows = eight_at args 74;
      taps = l.taps;
      ear_stride = field_at args 140 8;
    }

abbrev pub outcome_of : List ℕ → Lists → List ℕ → ReplayOutcome
outcome_of args l stamps = outcome (line_of args l stamps) (expected_at args) (state_of args l) l.ears

-- "every other list holds what the request gives"
unfoldable pub outcome_at : List ℕ → Lengths → ℕ → ReplayOutcome
outcome_at args n s = outcome_of args (lists_at args 153 n) (stamps_at args n s)
