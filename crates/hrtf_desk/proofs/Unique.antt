-- No two answers meet the promise. Assumes nothing.
use Rattle.lists.specs.Prelude.{refl}
use Rattle.lists.specs.OneAnswer.{AllowsOneAnswer, States}
use Rattle.lists.proofs.Determined.{determined_by}
use Rattle.hrtf_desk.specs.contracts.step

-- what `step` ensures
abbrev step_states : States step.ended
    (λ w κs a. (step.clauses w.𝓛 w.𝓜.mem w.𝓡.run κs a).ensures tt)
step_states = record { claim = _; stated = λ w κs a r e. refl }

step_unique : AllowsOneAnswer step.ended step_states.claim
step_unique κs a = determined_by (λ z h i. (_, (h i, _)))
