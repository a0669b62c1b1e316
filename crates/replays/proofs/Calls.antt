-- One call, accepted or refused, and calls one after another: what is sounded, counted and left is what the events of
-- the recorded list give, one by one. Assumes nothing.
use Rattle.std.specs.Prelude.{◌≡◌, ◌∷◌, ◌++◌}
use Rattle.lists.specs.Prelude.{refl, sym, ap, ◌∙◌, List, [], map-append, ℕ, zero, suc, arith, length, replicate}
use Rattle.lists.specs.Prelude.{Float}
use Rattle.formats.specs.Floats.{zero_float}
use Rattle.planes.specs.Planes.{frames_of}
use Rattle.hrtf_history.specs.Setup.{Setup, SameFilters}
use Rattle.hrtf_history.specs.Signals.{silent_frame}
use Rattle.hrtf_rings.specs.State.{State}
use Rattle.stamps.specs.Arrivals.{Expected}
use Rattle.stamps.specs.declared.Arrival.{Arrival}
use Rattle.stamps.specs.declared.Planned.{Planned}
use Rattle.stamps.specs.Arrivals.{expected_after}
use Rattle.stamps.specs.Counts.{added_up, planned_of}
use Rattle.stamps.specs.Events.{Recorded, Event, events_of, stamps_of}
use Rattle.stamps.proofs.Recordings.{added_cut, expected_cut, events_cut}
use Rattle.hrtf_runs.specs.Runs.{sum_of_counts}
use Rattle.replay.specs.Promise.{ReplayTold}
use Rattle.replay.specs.Recording.{Recording, setup_in, recording_in, events_in}
use Rattle.replay.specs.Promise.{ReplayOutcome, refused, replay_state_after}
use Rattle.replay.specs.Computed.{state_left_by, played_by, unsettled_played_by}
use Rattle.replay.proofs.Judging.{stamps_are}
use Rattle.replay.proofs.Eventful.{left_by_append, played_by_append, counted_by_append, left_by_alike}
use Rattle.replay.proofs.Eventful.{played_by_alike, counted_by_alike}
use Rattle.replay.proofs.Meets.{computed, outcome_by_lem, outcome_computed, ears_read}
use Rattle.replays.specs.Calls.{ReplayCall, Place, refusal_at, outcome_at, next, taken_where, taken, sounded}
use Rattle.replays.specs.Calls.{ReplayCallsAlike, taken_all, sounded_all, end, counts, stamps_all, events_all}

-- ---- one call

-- the events of the recorded frames that a call takes
abbrev pub events : Setup → Place → ReplayCall → List (Event (List Float))
events u p c = events_of (silent_frame u) p.expected (taken p c)

-- what it tells of them, as a plan tells it
abbrev tells_of : ReplayOutcome → Planned
tells_of o = let r = o.answer in record {
  out = r.samples;
  late = r.late;
  silent = r.silent;
  resets = r.resets;
  expected = r.expected;
}

pub record Called (u : Setup) (p : Place) (c : ReplayCall) : Type 0 where
  pub sounds : sounded p c ≡ played_by u p.state (events u p c)
  pub unsettled : (outcome_at p c).answer.unsettled ≡ unsettled_played_by u p.state (events u p c)
  pub state : (next p c).state ≡ state_left_by u p.state (events u p c)
  pub told : tells_of (outcome_at p c) ≡ planned_of p.expected (stamps_of (taken p c))

called_by : (u : Setup) (p : Place) (c : ReplayCall) → (refusal_at p c ≡ 0 → SameFilters (setup_in c.line) u) → (k : ℕ)
    → refusal_at p c ≡ k → Called u p c
called_by u p c same zero e =
    record {
      sounds = ears_read l x t c.ears e ∙ played_by_alike (setup_in l) u (same e) t (events_in l x)
          ∙ ap (played_by u t) does;
      unsettled = ap (λ (o : ReplayOutcome). o.answer.unsettled) made
          ∙ counted_by_alike (setup_in l) u (same e) t (events_in l x) ∙ ap (unsettled_played_by u t) does;
      state = ap replay_state_after made ∙ left_by_alike (setup_in l) u (same e) t (events_in l x)
          ∙ ap (state_left_by u t) does;
      told = ap tells_of made ∙ ap (planned_of x) (sym (stamps_are l x t (length c.ears) e) ∙ ap stamps_of takes);
    }
  where
    l : Recording
    l = c.line

    x : Expected
    x = p.expected

    t : State
    t = p.state

    made : outcome_at p c ≡ computed l x t c.ears
    made = outcome_computed l x t c.ears e

    takes : recording_in l ≡ taken p c
    takes = sym (ap (λ (n : ℕ). taken_where n c) e)

    does : events_in l x ≡ events u p c
    does = ap (λ (n : ℕ). events_of (replicate n zero_float) x (recording_in l)) (same e).channels
        ∙ ap (events_of (silent_frame u) x) takes
called_by u p c same (suc k) e =
    record {
      sounds = ap (λ (o : ReplayOutcome). frames_of o.ears c.line.ear_stride 2 o.answer.samples) made
          ∙ ap (played_by u p.state) none;
      unsettled = ap (λ (o : ReplayOutcome). o.answer.unsettled) made ∙ ap (unsettled_played_by u p.state) none;
      state = ap replay_state_after made ∙ ap (state_left_by u p.state) none;
      told = ap tells_of made ∙ ap (λ (n : ℕ). planned_of p.expected (stamps_of (taken_where n c))) (sym e);
    }
  where
    made : outcome_at p c ≡ refused (suc k) p.expected p.state c.ears
    made = outcome_by_lem c.line p.expected p.state c.ears (suc k) e

    none : [] ≡ events u p c
    none = ap (λ (n : ℕ). events_of (silent_frame u) p.expected (taken_where n c)) (sym e)

pub called : (u : Setup) (p : Place) (c : ReplayCall) → (refusal_at p c ≡ 0 → SameFilters (setup_in c.line) u)
    → Called u p c
called u p c same = called_by u p c same (refusal_at p c) refl

-- ---- calls one after another

module _ (u : Setup) where
  -- what the events of a call and of those behind it are together
  pub events_on : (p : Place) (c : ReplayCall) (cs : List ReplayCall) → Called u p c
      → events_all u p (c ∷ cs) ≡ events u p c ++ events_all u (next p c) cs
  events_on p c cs w =
      events_cut (silent_frame u) p.expected (taken p c) (taken_all (next p c) cs)
      ∙ ap (λ (x : Expected). events u p c ++ events_of (silent_frame u) x (taken_all (next p c) cs))
      (sym (ap (λ (q : Planned). q.expected) w.told))

  stamps_on : (p : Place) (c : ReplayCall) (cs : List ReplayCall) → stamps_all p (c ∷ cs) ≡ stamps_of (taken p c)
      ++ stamps_all (next p c) cs
  stamps_on p c cs = map-append (λ (r : Recorded (List Float)). r.stamp) (taken p c) (taken_all (next p c) cs)

  pub all_sounded : (p : Place) (cs : List ReplayCall) → ReplayCallsAlike u p cs
      → sounded_all p cs ≡ played_by u p.state (events_all u p cs)
  all_sounded p [] a = refl
  all_sounded p (c ∷ cs) a =
      let w = called u p c a.0 in
      ap (λ (l : List (List Float)). l ++ sounded_all (next p c) cs) w.sounds
      ∙ ap (λ (l : List (List Float)). played_by u p.state (events u p c) ++ l)
      (all_sounded (next p c) cs a.1 ∙ ap (λ (s : State). played_by u s (events_all u (next p c) cs)) w.state)
      ∙ sym (ap (played_by u p.state) (events_on p c cs w)
      ∙ played_by_append u p.state (events u p c) (events_all u (next p c) cs))

  pub all_unsettled : (p : Place) (cs : List ReplayCall) → ReplayCallsAlike u p cs
      → sum_of_counts (counts (λ (r : ReplayTold). r.unsettled) p cs)
      ≡ unsettled_played_by u p.state (events_all u p cs)
  all_unsettled p [] a = refl
  all_unsettled p (c ∷ cs) a =
      let w = called u p c a.0 in
      let rest = all_unsettled (next p c) cs a.1
      ∙ ap (λ (s : State). unsettled_played_by u s (events_all u (next p c) cs))
      w.state in
      let whole = ap (unsettled_played_by u p.state) (events_on p c cs w)
      ∙ counted_by_append u p.state (events u p c) (events_all u (next p c) cs) in
      omega (arith, w.unsettled, rest, whole)

  pub all_left : (p : Place) (cs : List ReplayCall) → ReplayCallsAlike u p cs
      → (end p cs).state ≡ state_left_by u p.state (events_all u p cs)
  all_left p [] a = refl
  all_left p (c ∷ cs) a =
      let w = called u p c a.0 in
      all_left (next p c) cs a.1
      ∙ ap (λ (s : State). state_left_by u s (events_all u (next p c) cs)) w.state
      ∙ sym (ap (state_left_by u p.state) (events_on p c cs w)
      ∙ left_by_append u p.state (events u p c) (events_all u (next p c) cs))

  pub all_expected : (p : Place) (cs : List ReplayCall) → ReplayCallsAlike u p cs
      → (end p cs).expected ≡ expected_after p.expected (stamps_all p cs)
  all_expected p [] a = refl
  all_expected p (c ∷ cs) a =
      let w = called u p c a.0 in
      all_expected (next p c) cs a.1
      ∙ ap (λ (x : Expected). expected_after x (stamps_all (next p c) cs)) (ap (λ (q : Planned). q.expected) w.told)
      ∙ sym (ap (expected_after p.expected) (stamps_on p c cs)
      ∙ expected_cut p.expected (stamps_of (taken p c)) (stamps_all (next p c) cs))

  -- a count that a call tells by what each stamp adds is told by all calls together
  pub all_counted : (count : ReplayTold → ℕ) (one : Arrival → ℕ)
      → ((p : Place) (c : ReplayCall) → Called u p c → count (outcome_at p c).answer ≡ added_up one p.expected
      (stamps_of (taken p c)))
      → (p : Place) (cs : List ReplayCall) → ReplayCallsAlike u p cs
      → sum_of_counts (counts count p cs) ≡ added_up one p.expected
      (stamps_all p cs)
  all_counted count one told p [] a = refl
  all_counted count one told p (c ∷ cs) a =
      let w = called u p c a.0 in
      let rest = all_counted count one told (next p c) cs a.1
      ∙ ap (λ (x : Expected). added_up one x (stamps_all (next p c) cs))
      (ap (λ (q : Planned). q.expected) w.told) in
      let whole = ap (added_up one p.expected) (stamps_on p c cs)
      ∙ added_cut one p.expected (stamps_of (taken p c)) (stamps_all (next p c) cs) in
      omega (arith, told p c w, rest, whole)
