-- `probe_gains::surround` meets its contract. Assumes nothing.
use Rattle.lists.specs.Prelude.{◌∙◌, ℕ, List, of_bits}
use Rattle.surround.specs.Promise.{SurroundGains, outcome}
use Rattle.probe_answer.specs.Answers.{refusal_and_doubles}
use Rattle.probe_answer.proofs.Meets.{untaken, called_two}
use Rattle.probe_request.proofs.Requests.{layout_read}
use Rattle.probe_gains.specs.Answers.{surround_answer}
use Rattle.probe_gains.proofs.surround.Goals as goal

pub returns-then-args-ne17 : goal.returns-then-args-ne17
unfolding surround_answer
returns-then-args-ne17 c = search untaken

pub returns : goal.returns
unfolding surround_answer of_bits
returns c =
    let a = c.args in
    called_two (λ (r : SurroundGains) (out : List ℕ). refusal_and_doubles r.refusal r.gains out) outcome
    17 a.args.now a.out.now
    (c.put_refusal_and_f64s.ensures
    ∙ (λ i. refusal_and_doubles (c.number_in.ensures i) (c.unwrap_or-gains.ensures i) a.out.now))
    c.calculate_vbap_gains-answer.ensures.bits
    (layout_read a.args.now 0 _ _ _ c.layout-layout.ensures c.number.ensures c.number-2.ensures)
    c.get_f64.ensures c.if-args-ne17.false
