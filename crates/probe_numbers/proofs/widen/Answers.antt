-- `probe_numbers::widen` meets its contract. Assumes nothing.
use Rattle.std.specs.Prelude.{◌∷◌}
use Rattle.lists.specs.Prelude.{ℕ, List, [], Float}
use Rattle.big_endian.specs.Lists.{double_bytes}
use Rattle.probe_answer.specs.Answers.{none, ◌then◌}
use Rattle.probe_answer.proofs.Meets.{untaken, called}
use Rattle.probe_numbers.specs.Answers.{widen_answer}
use Rattle.probe_numbers.proofs.widen.Goals as goal

pub returns-then-args-ne4 : goal.returns-then-args-ne4
unfolding widen_answer
returns-then-args-ne4 c = search untaken

pub returns : goal.returns
unfolding widen_answer
returns c = search (called (λ (x : Float) (out : List ℕ). none out then double_bytes (x ∷ [])) (λ (x : Float). x))
