-- `probe_numbers::sine_or_cosine` meets its contract. Assumes nothing.
use Rattle.std.specs.Prelude.{◌∷◌}
use Rattle.lists.specs.Prelude.{refl, ◌∙◌, ℕ, List, [], of_bits}
use Rattle.angles.specs.Promise.{Answer, outcome}
use Rattle.probe_answer.specs.Answers.{refusal_and_doubles}
use Rattle.probe_answer.proofs.Meets.{untaken, called_two}
use Rattle.probe_numbers.specs.Answers.{wave_answer}
use Rattle.probe_numbers.proofs.sine_or_cosine.Goals as goal

pub returns-then-args-ne8 : goal.returns-then-args-ne8
unfolding wave_answer
returns-then-args-ne8 c = search untaken

pub returns : goal.returns
unfolding wave_answer of_bits
returns c =
    let a = c.args in
    called_two (λ (r : Answer) (out : List ℕ). refusal_and_doubles r.refusal (r.value ∷ []) out) outcome
    8 a.args.now a.out.now
    (c.put_refusal_and_f64s.ensures
    ∙ (λ i. refusal_and_doubles (c.number_in.ensures i) (c.unwrap_or.ensures i ∷ []) a.out.now))
    c.wave-answer.ensures refl c.get_f64.ensures c.if-args-ne8.false
