-- docs/PROBE.md: what stands in an answer "is put there by a library for each family of operations", by the number of
-- the operation. Definitions only.
use Rattle.std.specs.Prelude.{ℕ, cond, List, eqb}
use Rattle.refusals.specs.Ranges.{within}
use Rattle.probe_answer.specs.Answers.{Draft, none}
use Rattle.probe_numbers.specs.Answers as Numbers
use Rattle.probe_bank.specs.Answers as Bank
use Rattle.probe_gains.specs.Answers as Gains
use Rattle.probe_planes.specs.Answers as Planes
use Rattle.probe_hrtf.specs.Answers as Hrtf
use Rattle.probe_setup.specs.Answers as Setup
use Rattle.probe_script.specs.Answers as Script
use Rattle.probe_replay.specs.Answers as Replay

-- "`probe_numbers` (1 to 5), `probe_bank` (6 to 8, 23 and 24), `probe_gains` (9 to 13 and 15), `probe_planes` (14 and
-- 16), `probe_hrtf` (17, 18 and 25), `probe_setup` (19 and 20), `probe_script` (21) and `probe_replay` (22)"; none to
-- another one
unfoldable pub answer_of : ℕ → List ℕ → List ℕ → Draft
answer_of operation args out =
    cond (within 1 5 operation) (Numbers.answer_of operation args out)
    (cond (within 6 8 operation) (Bank.answer_of operation args out)
    (cond (within 9 13 operation) (Gains.answer_of operation args out)
    (cond (eqb operation 14) (Planes.answer_of operation args out)
    (cond (eqb operation 15) (Gains.answer_of operation args out)
    (cond (eqb operation 16) (Planes.answer_of operation args out)
    (cond (within 17 18 operation) (Hrtf.answer_of operation args out)
    (cond (within 19 20 operation) (Setup.answer_of operation args out)
    (cond (eqb operation 21) (Script.answer_of operation args out)
    (cond (eqb operation 22) (Replay.answer_of operation args out)
    (cond (within 23 24 operation) (Bank.answer_of operation args out)
    (cond (eqb operation 25) (Hrtf.answer_of operation args out)
    (none out))))))))))))
