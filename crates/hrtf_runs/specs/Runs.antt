-- A run: calls of `process` one after another, the rings and the desk passed on untouched. A call may be refused; it
-- then feeds nothing and leaves all as it was. Definitions only.
use Rattle.std.specs.Prelude.{◌+◌, ◌≡◌, ◌∷◌}
use Rattle.lists.specs.Prelude.{ℕ, List, [], Float}
use Rattle.refusals.specs.Refusals.{answered}
use Rattle.lists.specs.Calls.{last_state, of_each_call, of_all_calls, HoldsOfEachCall}
use Rattle.planes.specs.Planes.{frames_of}
use Rattle.hrtf_history.specs.Setup.{Setup, SameFilters}
use Rattle.hrtf_rings.specs.State.{State}
use Rattle.hrtf_checks.specs.Call.{BlockCall, setup, frames_in}
use Rattle.hrtf_checks.specs.Refusals.{refusal_of}
use Rattle.hrtf.specs.Promise.{outcome, state_after}

-- ---- one call

-- the rings and the desk that it leaves
abbrev pub next : BlockCall → State → State
next c t = state_after (outcome c t)

-- the frames that it feeds: those of its input planes, or none where it is refused
abbrev pub fed_by : ℕ → List (List Float) → List (List Float)
fed_by n fs = answered n fs (λ k. [])

abbrev pub fed : BlockCall → State → List (List Float)
fed c t = fed_by (refusal_of c t) (frames_in c)

-- the ear samples of the frames that it says it played, read from the two ear planes as it leaves them: for each frame
-- left, then right
abbrev pub sounded : BlockCall → State → List (List Float)
sounded c t = frames_of (outcome c t).ears c.stride 2 (outcome c t).answer.samples

-- ---- a run

-- every call that is accepted has the counts, L, weights and filters of u; a call that is refused may hold anything
abbrev pub CallsAlike : Setup → State → List BlockCall → Type 0
CallsAlike u t cs = HoldsOfEachCall next (λ c t. refusal_of c t ≡ 0 → SameFilters (setup c) u) t cs

abbrev pub fed_all : State → List BlockCall → List (List Float)
fed_all t cs = of_all_calls next fed t cs

abbrev pub sounded_all : State → List BlockCall → List (List Float)
sounded_all t cs = of_all_calls next sounded t cs

abbrev pub end : State → List BlockCall → State
end t cs = last_state next t cs

-- each call's unsettled count
abbrev pub unsettled_counts : State → List BlockCall → List ℕ
unsettled_counts t cs = of_each_call next (λ c t. (outcome c t).answer.unsettled) t cs

abbrev pub sum_of_counts : List ℕ → ℕ
sum_of_counts [] = 0
sum_of_counts (n ∷ ns) = n + sum_of_counts ns
