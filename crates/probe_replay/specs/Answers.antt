-- What is answered to a request for the replay of a recorded line (docs/PROBE.md, 'Operations', 22). Definitions only.
use Rattle.lists.specs.Prelude.{ℕ, cond, List, eqb}
use Rattle.big_endian.specs.Bytes.{bytes_of}
use Rattle.big_endian.specs.Lists.{float_bytes}
use Rattle.stamps.specs.Arrivals.{Expected}
use Rattle.std.specs.Prelude.{None, Some}
use Rattle.stamps.specs.Arrivals.{stamp_of}
use Rattle.replay.specs.Promise.{ReplayTold, ReplayOutcome}
use Rattle.probe_request.specs.Requests.{samples_lent}
use Rattle.probe_answer.specs.Answers.{Draft, none, taking, ◌then◌}
use Rattle.probe_hrtf.specs.Requests.{Lengths, lent_of}
use Rattle.probe_hrtf.specs.Answers.{then_desk}
use Rattle.probe_replay.specs.Requests.{line_end, outcome_at}

-- "expected (1: 0 for none, 1 for a stamp; and 4: the stamp, or 0)"
abbrev pub mark_of : Expected → ℕ
mark_of None = 0
mark_of (Some s) = 1

abbrev pub then_expected : Draft → Expected → Draft
then_expected d x = d then bytes_of 1 (mark_of x) then bytes_of 4 (stamp_of x)

-- "refusal (1), samples, unsettled, late, silent, resets, ring position, frames-to-go (8 each)", and what is expected
abbrev pub then_counts : Draft → ReplayTold → Draft
then_counts d p =
    then_expected
    (then_desk
    (d then bytes_of 1 p.refusal then bytes_of 8 p.samples then bytes_of 8 p.unsettled then bytes_of 8
    p.late then bytes_of 8 p.silent then bytes_of 8 p.resets)
    p.desk)
    p.expected

-- "the r cells, the e samples", as they stand after the call
unfoldable pub line_shown : ReplayOutcome → List ℕ → Draft
line_shown o out = then_counts (none out) o.answer then float_bytes o.rings then float_bytes o.ears

-- n of the five lists and s stamps being lent
unfoldable pub line_by : Lengths → ℕ → List ℕ → List ℕ → Draft
line_by n s args out = taking (line_end n s) args out (line_shown (outcome_at args n s) out)

-- "Lists are lent at the lengths that the request says"; "s: stamps lent (2)", up to as many as samples
abbrev pub line_answer : List ℕ → List ℕ → Draft
line_answer args out = line_by (lent_of args) (samples_lent args 138) args out

-- "22 replay"; any other is not of this family
unfoldable pub answer_of : ℕ → List ℕ → List ℕ → Draft
answer_of operation args out = cond (eqb operation 22) (line_answer args out) (none out)
