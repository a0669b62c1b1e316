-- `probe_answer::put_refusal_and_f64s` meets its contract: one part behind the other. Assumes nothing.
use Rattle.probe_answer.specs.Answers.{refusal_and_doubles}
use Rattle.probe_answer.proofs.put_refusal_and_f64s.Goals as goal

pub returns : goal.returns
unfolding refusal_and_doubles
returns c = cc
