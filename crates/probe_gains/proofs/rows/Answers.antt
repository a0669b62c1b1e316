-- `probe_gains::rows` meets its contract. Assumes nothing.
use Rattle.std.specs.Prelude.{◌+◌, ◌*◌}
use Rattle.lists.specs.Prelude.{◌∙◌, arith, length}
use Rattle.matrix.specs.Promise.{WeightsAnswer, outcome}
use Rattle.big_endian.specs.Fields.{double_at}
use Rattle.probe_answer.specs.Answers.{refusal_and_doubles}
use Rattle.probe_answer.proofs.Meets.{untaken, answered}
use Rattle.probe_request.proofs.Requests.{inside}
use Rattle.probe_gains.specs.Answers.{rows_answer}
use Rattle.probe_gains.proofs.rows.Goals as goal

pub returns-then-args-weights : goal.returns-then-args-weights
unfolding rows_answer
returns-then-args-weights c = search untaken

pub returns : goal.returns
unfolding rows_answer
returns c =
    let a = c.args in
    let right = c.if-args-weights.false in
    let weights = inside double_at 8 a.args.now 10 a.weights.now _ c.get_list.ensures (omega (arith, right)) in
    answered (λ (r : WeightsAnswer). refusal_and_doubles r.refusal r.weights a.out.now)
    (10 + 8 * length a.weights.now) a.args.now _ right
    (c.compute_matrix-answer.ensures ∙ (λ i. outcome (c.number.ensures i) (weights i)))
    (c.put_refusal_and_f64s.ensures
    ∙ (λ i. refusal_and_doubles (c.number_in.ensures i) c.compute_matrix-answer.new.weights a.out.now))
