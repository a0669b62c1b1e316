-- `probe_numbers::narrow` meets its contract. Assumes nothing.
use Rattle.std.specs.Prelude.{◌∷◌}
use Rattle.lists.specs.Prelude.{ℕ, List, [], Float}
use Rattle.numbers.specs.Computed.{narrowed}
use Rattle.big_endian.specs.Lists.{float_bytes}
use Rattle.probe_answer.specs.Answers.{none, ◌then◌}
use Rattle.probe_answer.proofs.Meets.{untaken, called}
use Rattle.probe_numbers.specs.Answers.{narrow_answer}
use Rattle.probe_numbers.proofs.narrow.Goals as goal

pub returns-then-args-ne8 : goal.returns-then-args-ne8
unfolding narrow_answer
returns-then-args-ne8 c = search untaken

pub returns : goal.returns
unfolding narrow_answer
returns c = search (called (λ (x : Float) (out : List ℕ). none out then float_bytes (x ∷ [])) narrowed)
