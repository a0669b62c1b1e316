-- `probe_gains::stereo` meets its contract. Assumes nothing.
use Rattle.std.specs.Prelude.{◌∷◌}
use Rattle.lists.specs.Prelude.{◌∙◌, ℕ, List, [], of_bits}
use Rattle.stereo.specs.Promise.{StereoAnswer, outcome}
use Rattle.probe_answer.specs.Answers.{refusal_and_doubles}
use Rattle.probe_answer.proofs.Meets.{untaken, called}
use Rattle.probe_gains.specs.Answers.{stereo_answer}
use Rattle.probe_gains.proofs.stereo.Goals as goal

pub returns-then-args-ne8 : goal.returns-then-args-ne8
unfolding stereo_answer
returns-then-args-ne8 c = search untaken

pub returns : goal.returns
unfolding stereo_answer of_bits
returns c =
    let a = c.args in
    let gains = c.unwrap_or-gains.ensures in
    called (λ (r : StereoAnswer) (out : List ℕ). refusal_and_doubles r.refusal (r.left ∷ r.right ∷ []) out) outcome
    8 a.args.now a.out.now
    (c.put_refusal_and_f64s.ensures
    ∙ (λ i. refusal_and_doubles (c.number_in.ensures i) ((gains i).left ∷ (gains i).right ∷ []) a.out.now))
    c.calculate_stereo_gains-answer.ensures.bits c.get_f64.ensures c.if-args-ne8.false
