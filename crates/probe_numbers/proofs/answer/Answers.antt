-- `probe_numbers::answer` meets its contract. Assumes nothing.
use Rattle.lists.specs.Prelude.{◌∙◌, arith}
use Rattle.probe_answer.proofs.Meets.{chosen}
use Rattle.probe_numbers.specs.Answers.{answer_of}
use Rattle.probe_numbers.proofs.Meets.{either, not_chosen}
use Rattle.probe_numbers.proofs.answer.Goals as goal

pub returns-in-1 : goal.returns-in-1
unfolding answer_of
returns-in-1 c = search (chosen answer_of 1)

pub returns-in-2 : goal.returns-in-2
unfolding answer_of
returns-in-2 c = search (chosen answer_of 2)

pub returns-in-3 : goal.returns-in-3
unfolding answer_of
returns-in-3 c = search (chosen answer_of 3)

pub returns-in-4 : goal.returns-in-4
returns-in-4 c = c.before.before.sine_or_cosine.ensures ∙ either _ _ _ (omega arith) (omega arith)

pub returns-in_default : goal.returns-in_default
returns-in_default c =
    not_chosen _ _ _ (λ e. omega arith) (λ e. omega arith) (λ e. omega arith) (λ e. omega arith) (λ e. omega arith)

pub returns-in_default-2 : goal.returns-in_default-2
returns-in_default-2 c =
    not_chosen _ _ _ (λ e. omega arith) (λ e. omega arith) (λ e. omega arith) (λ e. omega arith) (λ e. omega arith)
