-- `probe_numbers::root` meets its contract. Assumes nothing.
use Rattle.std.specs.Prelude.{◌∷◌}
use Rattle.lists.specs.Prelude.{◌∙◌, ℕ, List, [], of_bits}
use Rattle.numbers.specs.Computed as Numbers
use Rattle.numbers.specs.Computed.{Rooted}
use Rattle.probe_answer.specs.Answers.{refusal_and_doubles}
use Rattle.probe_answer.proofs.Meets.{untaken, called}
use Rattle.probe_numbers.specs.Answers.{root_answer}
use Rattle.probe_numbers.proofs.root.Goals as goal

pub returns-then-args-ne8 : goal.returns-then-args-ne8
unfolding root_answer
returns-then-args-ne8 c = search untaken

pub returns : goal.returns
unfolding root_answer of_bits
returns c =
    let a = c.args in
    called (λ (r : Rooted) (out : List ℕ). refusal_and_doubles r.refusal (r.value ∷ []) out) Numbers.root_answer
    8 a.args.now a.out.now
    (c.put_refusal_and_f64s.ensures
    ∙ (λ i. refusal_and_doubles (c.number_in.ensures i) (c.unwrap_or.ensures i ∷ []) a.out.now))
    c.root-answer.ensures.bits c.get_f64.ensures c.if-args-ne8.false
