-- No two answers meet one promise. Assumes nothing.
use Rattle.lists.specs.Prelude.{refl}
use Rattle.lists.specs.OneAnswer.{AllowsOneAnswer, States}
use Rattle.lists.proofs.Determined.{determined_by}
use Rattle.cues.specs.contracts.judged
use Rattle.cues.specs.contracts.holding

-- what `judged` ensures
abbrev judged_states : States judged.ended
    (λ w κs a. (judged.clauses w.𝓛 w.𝓜.mem w.𝓡.run κs a).ensures tt)
judged_states = record { claim = _; stated = λ w κs a r e. refl }

pub judged_unique : AllowsOneAnswer judged.ended judged_states.claim
judged_unique κs a = determined_by (λ z h i. (h i, _))

-- what `holding` ensures
abbrev holding_states : States holding.ended
    (λ w κs a. (holding.clauses w.𝓛 w.𝓜.mem w.𝓡.run κs a).ensures tt)
holding_states = record { claim = _; stated = λ w κs a r e. refl }

pub holding_unique : AllowsOneAnswer holding.ended holding_states.claim
holding_unique κs a = determined_by (λ z h i. (h.bits i, _))
