-- `probe_replay::answer` meets its contract: by the operation's number. Assumes nothing.
use Rattle.lists.specs.Prelude.{sym, ne_eqb}
use Rattle.probe_answer.proofs.Meets.{chosen}
use Rattle.probe_replay.specs.Answers.{answer_of}
use Rattle.probe_replay.proofs.answer.Goals as goal

pub returns-then-operation-ne22 : goal.returns-then-operation-ne22
unfolding answer_of
returns-then-operation-ne22 c = sym (rw (ne_eqb _ _ c.if-operation-ne22.true))

pub returns : goal.returns
unfolding answer_of
returns c = search (chosen answer_of 22)
