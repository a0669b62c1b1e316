-- `probe_gains::weighted` meets its contract. Assumes nothing.
use Rattle.lists.specs.Prelude.{◌∙◌, ℕ, List, of_bits}
use Rattle.virtual_speaker.specs.Promise.{Weighted, outcome}
use Rattle.probe_answer.specs.Answers.{refusal_and_doubles}
use Rattle.probe_answer.proofs.Meets.{untaken, called_two}
use Rattle.probe_gains.specs.Answers.{weighted_answer}
use Rattle.probe_gains.proofs.weighted.Goals as goal

pub returns-then-args-ne24 : goal.returns-then-args-ne24
unfolding weighted_answer
returns-then-args-ne24 c = search untaken

pub returns : goal.returns
unfolding weighted_answer of_bits
returns c =
    let a = c.args in
    called_two (λ (r : Weighted) (out : List ℕ). refusal_and_doubles r.refusal r.weights out) outcome
    24 a.args.now a.out.now
    (c.put_refusal_and_f64s.ensures
    ∙ (λ i. refusal_and_doubles (c.number_in.ensures i) (c.unwrap_or-weights.ensures i) a.out.now))
    c.compute_sh_coefficients_max_re-answer.ensures.bits c.number-order.ensures c.direction.ensures c.if-args-ne24.false
