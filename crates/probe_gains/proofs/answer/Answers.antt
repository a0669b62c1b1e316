-- `probe_gains::answer` meets its contract. Assumes nothing.
use Rattle.probe_answer.proofs.Meets.{chosen}
use Rattle.probe_gains.specs.Answers.{answer_of}
use Rattle.probe_gains.proofs.Meets.{either, not_chosen}
use Rattle.probe_gains.proofs.answer.Goals as goal

pub returns-in-10 : goal.returns-in-10
unfolding answer_of
returns-in-10 c = search (chosen answer_of 10)

pub returns-in-11 : goal.returns-in-11
unfolding answer_of
returns-in-11 c = search (chosen answer_of 11)

pub returns-in-12 : goal.returns-in-12
unfolding answer_of
returns-in-12 c = search (chosen answer_of 12)

pub returns-in-13 : goal.returns-in-13
unfolding answer_of
returns-in-13 c = search (chosen answer_of 13)

pub returns-in-9 : goal.returns-in-9
returns-in-9 c = search either

pub returns-in_default : goal.returns-in_default
returns-in_default c = search not_chosen
