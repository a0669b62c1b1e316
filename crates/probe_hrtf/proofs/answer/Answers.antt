-- `probe_hrtf::answer` meets its contract: each operation by its number. Assumes nothing.
use Rattle.lists.specs.Prelude.{rules}
use Rattle.probe_answer.proofs.Meets.{chosen}
use Rattle.probe_hrtf.specs.Answers.{answer_of}
use Rattle.probe_hrtf.proofs.answer.Goals as goal

pub returns-in-17 : goal.returns-in-17
unfolding answer_of
returns-in-17 c = search (chosen answer_of 17)

pub returns-in-18 : goal.returns-in-18
unfolding answer_of
returns-in-18 c = search (chosen answer_of 18)

pub returns-in-25 : goal.returns-in-25
unfolding answer_of
returns-in-25 c = search (chosen answer_of 25)

pub returns-in_default : goal.returns-in_default
unfolding answer_of
returns-in_default c = search rules
