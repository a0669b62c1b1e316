-- `probe_gains::matrix_over` meets its contract: the part of the room that is lent has the length that was asked for.
-- Assumes nothing.
use Rattle.probe_request.proofs.Requests.{lent_length}
use Rattle.probe_answer.proofs.Meets.{asked}
use Rattle.probe_gains.specs.Answers.{matrix_answer}
use Rattle.probe_gains.proofs.matrix_over.Goals as goal

pub returns : goal.returns
returns c = asked (matrix_answer _) c.matrix.ensures (lent_length _ _ _ c.lent-w.ensures)
