-- `probe_gains::decoder_matrix` meets its contract. Assumes nothing.
use Rattle.std.specs.Prelude.{◌+◌, ◌*◌}
use Rattle.lists.specs.Prelude.{◌∙◌, arith, length}
use Rattle.decoder_matrix.specs.Promise.{WeightsAnswer, outcome}
use Rattle.big_endian.specs.Fields.{double_at}
use Rattle.probe_answer.specs.Answers.{refusal_and_doubles}
use Rattle.probe_answer.proofs.Meets.{untaken, answered}
use Rattle.probe_request.proofs.Requests.{inside, layout_read}
use Rattle.probe_gains.specs.Answers.{decoder_answer}
use Rattle.probe_gains.proofs.decoder_matrix.Goals as goal

pub returns-then-args-weights : goal.returns-then-args-weights
unfolding decoder_answer
returns-then-args-weights c = search untaken

pub returns : goal.returns
unfolding decoder_answer
returns c =
    let a = c.args in
    let right = c.if-args-weights.false in
    let layout = layout_read a.args.now 10 _ _ _ c.layout-layout.ensures c.number.ensures c.number-2.ensures in
    let weights = inside double_at 8 a.args.now 19 a.weights.now _ c.get_list.ensures (omega (arith, right)) in
    answered (λ (r : WeightsAnswer). refusal_and_doubles r.refusal r.weights a.out.now)
    (19 + 8 * length a.weights.now) a.args.now _ right
    (c.compute_decoder_matrix-answer.ensures.bits
    ∙ (λ i. outcome (c.number-order.ensures i) (layout i) (weights i)))
    (c.put_refusal_and_f64s.ensures
    ∙ (λ i. refusal_and_doubles (c.number_in.ensures i) c.compute_decoder_matrix-answer.new.weights a.out.now))
