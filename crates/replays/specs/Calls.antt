-- A replay in many calls of `replay::replay`, what is expected, the rings and the desk passed on untouched. A call may
-- be refused; it then takes nothing and leaves all as it was. Definitions only.
use Rattle.std.specs.Prelude.{◌≡◌}
use Rattle.lists.specs.Prelude.{ℕ, List, [], length, Float}
use Rattle.refusals.specs.Refusals.{answered}
use Rattle.lists.specs.Calls.{last_state, of_each_call, of_all_calls, HoldsOfEachCall}
use Rattle.planes.specs.Planes.{frames_of}
use Rattle.hrtf_history.specs.Setup.{Setup, SameFilters}
use Rattle.hrtf_history.specs.Signals.{silent_frame}
use Rattle.hrtf_rings.specs.State.{State}
use Rattle.stamps.specs.Arrivals.{Expected}
use Rattle.stamps.specs.Events.{Recorded, Event, events_of, stamps_of}
use Rattle.replay.specs.Promise.{ReplayTold}
use Rattle.replay.specs.Recording.{Recording, setup_in, recording_in}
use Rattle.replay.specs.Promise.{refusal_in, ReplayOutcome, outcome, replay_state_after}

-- ---- one call

-- all that is handed to it but what is passed on
pub record ReplayCall : Type 0 where
  pub line : Recording
  pub ears : List Float

-- what is passed on
pub record Place : Type 0 where
  pub expected : Expected
  pub state : State

abbrev pub refusal_at : Place → ReplayCall → ℕ
refusal_at p c = refusal_in c.line p.expected p.state (length c.ears)

abbrev pub outcome_at : Place → ReplayCall → ReplayOutcome
outcome_at p c = outcome c.line p.expected p.state c.ears

abbrev pub next : Place → ReplayCall → Place
next p c = record { expected = (outcome_at p c).answer.expected; state = replay_state_after (outcome_at p c) }

-- the recorded frames that it takes: those of its line, or none where it is refused
abbrev pub taken_where : ℕ → ReplayCall → List (Recorded (List Float))
taken_where n c = answered n (recording_in c.line) (λ k. [])

abbrev pub taken : Place → ReplayCall → List (Recorded (List Float))
taken p c = taken_where (refusal_at p c) c

-- the ear samples of the frames that it says came out, read from the two ear planes as it leaves them: for each frame
-- left, then right
abbrev pub sounded : Place → ReplayCall → List (List Float)
sounded p c = frames_of (outcome_at p c).ears c.line.ear_stride 2 (outcome_at p c).answer.samples

-- ---- many calls

-- every call that is accepted has the counts, L, weights and filters of u; a call that is refused may hold anything
abbrev pub ReplayCallsAlike : Setup → Place → List ReplayCall → Type 0
ReplayCallsAlike u p cs = HoldsOfEachCall (λ c p. next p c)
    (λ c p. refusal_at p c ≡ 0 → SameFilters (setup_in c.line) u) p cs

-- the recorded list
abbrev pub taken_all : Place → List ReplayCall → List (Recorded (List Float))
taken_all p cs = of_all_calls (λ c p. next p c) (λ c p. taken p c) p cs

abbrev pub sounded_all : Place → List ReplayCall → List (List Float)
sounded_all p cs = of_all_calls (λ c p. next p c) (λ c p. sounded p c) p cs

abbrev pub end : Place → List ReplayCall → Place
end p cs = last_state (λ c p. next p c) p cs

-- a count that each call answers
abbrev pub counts : (ReplayTold → ℕ) → Place → List ReplayCall → List ℕ
counts count p cs = of_each_call (λ c p. next p c) (λ c p. count (outcome_at p c).answer) p cs

-- the stamps of the recorded list, and what it does: the frames as fed, each with its stamp, and restarts
abbrev pub stamps_all : Place → List ReplayCall → List ℕ
stamps_all p cs = stamps_of (taken_all p cs)

abbrev pub events_all : Setup → Place → List ReplayCall → List (Event (List Float))
events_all u p cs = events_of (silent_frame u) p.expected (taken_all p cs)
