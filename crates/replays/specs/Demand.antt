-- What document 02's E5 asks of a replay, in the order of its words; it is shown in proofs/Demand.antt: "Counts of late
-- frames, silent frames and resets equal those of a plain definition over the recorded list", and "Demand 3 holds for
-- the frames as fed, between resets". Definitions only.
use Rattle.std.specs.Prelude.{◌+◌, ◌<◌, ◌≡◌, ◌∷◌, ◌++◌}
use Rattle.lists.specs.Prelude.{ℕ, zero, suc, Bool, false, List, [], length, get_or, Float}
use Rattle.lists.specs.Tables.{tab, any, count}
use Rattle.checks.specs.Finite.{has_nonfinite}
use Rattle.hrtf_desk.specs.declared.Desk.{Desk}
use Rattle.hrtf_history.specs.Setup.{Setup}
use Rattle.hrtf_history.specs.Signals.{damaged, silent_frame}
use Rattle.hrtf_history.specs.History.{ear_samples, heard}
use Rattle.hrtf_rings.specs.Held.{Represents}
use Rattle.hrtf.specs.Reset.{ResetPromise}
use Rattle.stamps.specs.Arrivals.{expected_after}
use Rattle.stamps.specs.Counts.{out_in, late_in, silent_in, resets_in}
use Rattle.stamps.specs.Events.{Event, feed, restart, restarts_in, fed}
use Rattle.hrtf_runs.specs.Runs.{sum_of_counts}
use Rattle.replay.specs.Promise.{ReplayTold}
use Rattle.replay.specs.Heard.{heard_by, unsettled_by, after_by}
use Rattle.replays.specs.Calls.{ReplayCall, Place, ReplayCallsAlike, taken_all, sounded_all, end, counts}
use Rattle.replays.specs.Calls.{outcome_at, next}
use Rattle.replays.specs.Calls.{stamps_all, events_all}

-- ---- the frames as fed

-- what happens up to frame n as fed, with it
abbrev pub upto_fed : List (Event (List Float)) → ℕ → List (Event (List Float))
upto_fed [] n = []
upto_fed (feed s f ∷ es) zero = feed s f ∷ []
upto_fed (feed s f ∷ es) (suc n) = feed s f ∷ upto_fed es n
upto_fed (restart ∷ es) n = restart ∷ upto_fed es n

-- the frames fed since the last restart, the newest first, and those of `past` where there was none
abbrev pub fed_since : List (List Float) → List (Event (List Float)) → List (List Float)
fed_since past [] = past
fed_since past (feed s f ∷ es) = fed_since (f ∷ past) es
fed_since past (restart ∷ es) = fed_since [] es

-- the frame k frames before frame n as fed: silence before the first since the last restart
abbrev pub frame_ago : Setup → List (Event (List Float)) → ℕ → ℕ → List Float
frame_ago u es n k = get_or (fed_since [] (upto_fed es n)) k (silent_frame u)

-- "a damaged frame among those L", frame n as fed and the L-1 before it
abbrev pub damaged_among : Setup → List (Event (List Float)) → ℕ → Bool
damaged_among u es n = any (tab 0 u.L (λ k. damaged u (frame_ago u es n k)))

-- of each call the number of its frames that have one: es are the events of the whole replay, n frames having come out
-- before the call
abbrev pub damaged_counts : Setup → List (Event (List Float)) → ℕ → Place → List ReplayCall → List ℕ
damaged_counts u es n p [] = []
damaged_counts u es n p (c ∷ cs) = count (tab n (outcome_at p c).answer.samples (damaged_among u es))
    ∷ damaged_counts u es (n + (outcome_at p c).answer.samples) (next p c) cs

-- the frames between restarts, in the order of time: before the first, and after each
abbrev pub first_part : List (Event (List Float)) → List (List Float)
first_part [] = []
first_part (feed s f ∷ es) = f ∷ first_part es
first_part (restart ∷ es) = []

abbrev pub later_parts : List (Event (List Float)) → List (List (List Float))
later_parts [] = []
later_parts (feed s f ∷ es) = later_parts es
later_parts (restart ∷ es) = first_part es ∷ later_parts es

-- what is heard of each part from a reset, one part behind the other
abbrev pub heard_parts : Setup → List (List (List Float)) → List (List Float)
heard_parts u [] = []
heard_parts u (fs ∷ parts) = heard u [] fs ++ heard_parts u parts

-- ---- replays

-- "from reset with the same filters, finite weights, speaker count and filter length L throughout", as demand 3 has it
-- of runs: the state is what `hrtf::reset` promises to leave of a desk and rings that it accepts
pub record Replay (u : Setup) (p : Place) (cs : List ReplayCall) : Type 0 where
  pub desk : Desk
  pub rings : List Float
  pub reset : ResetPromise desk u.speakers u.L rings
      (record { answer = record { refusal = 0; desk = p.state.desk }; rings = p.state.rings })
  pub finite : has_nonfinite u.weights ≡ false
  pub alike : ReplayCallsAlike u p cs

-- frame n as fed of one replay and frame m of another, and the L-1 before each since the last restart, agree
abbrev pub ReplayFramesAgree : Setup → Place → List ReplayCall → ℕ → Place → List ReplayCall → ℕ → Type 0
ReplayFramesAgree u p cs n q ds m = (k : ℕ) → k < u.L
    → frame_ago u (events_all u p cs) n k ≡ frame_ago u (events_all u q ds) m k

-- the counts of all calls together, by the definitions over the recorded list and over its events
pub record Counted (u : Setup) (p : Place) (cs : List ReplayCall) : Type 0 where
  pub late : sum_of_counts (counts (λ (r : ReplayTold). r.late) p cs) ≡ late_in p.expected (stamps_all p cs)
  pub silent : sum_of_counts (counts (λ (r : ReplayTold). r.silent) p cs) ≡ silent_in p.expected (stamps_all p cs)
  pub resets : sum_of_counts (counts (λ (r : ReplayTold). r.resets) p cs) ≡ resets_in p.expected (stamps_all p cs)
  pub samples : sum_of_counts (counts (λ (r : ReplayTold). r.samples) p cs) ≡ out_in p.expected (stamps_all p cs)
  -- the frames that came out are those that were fed, and the resets are the restarts
  pub fed : sum_of_counts (counts (λ (r : ReplayTold). r.samples) p cs) ≡ length (fed (events_all u p cs))
  pub restarted : sum_of_counts (counts (λ (r : ReplayTold). r.resets) p cs) ≡ restarts_in (events_all u p cs)
  -- every recorded frame came out or was late, and what came out besides is silence
  pub balance : sum_of_counts (counts (λ (r : ReplayTold). r.samples) p cs) + sum_of_counts
      (counts (λ (r : ReplayTold). r.late) p cs)
      ≡ length (taken_all p cs) + sum_of_counts (counts (λ (r : ReplayTold). r.silent) p cs)
  pub expected : (end p cs).expected ≡ expected_after p.expected (stamps_all p cs)

-- two replays from the same place sound the same, count the same in all, and leave the same
pub record SameReplay (p : Place) (cs ds : List ReplayCall) : Type 0 where
  pub sounds : sounded_all p cs ≡ sounded_all p ds
  pub samples : sum_of_counts (counts (λ (r : ReplayTold). r.samples) p cs) ≡ sum_of_counts
      (counts (λ (r : ReplayTold). r.samples) p ds)
  pub unsettled : sum_of_counts (counts (λ (r : ReplayTold). r.unsettled) p cs)
      ≡ sum_of_counts (counts (λ (r : ReplayTold). r.unsettled) p ds)
  pub late : sum_of_counts (counts (λ (r : ReplayTold). r.late) p cs) ≡ sum_of_counts
      (counts (λ (r : ReplayTold). r.late) p ds)
  pub silent : sum_of_counts (counts (λ (r : ReplayTold). r.silent) p cs) ≡ sum_of_counts
      (counts (λ (r : ReplayTold). r.silent) p ds)
  pub resets : sum_of_counts (counts (λ (r : ReplayTold). r.resets) p cs) ≡ sum_of_counts
      (counts (λ (r : ReplayTold). r.resets) p ds)
  pub leaves : end p cs ≡ end p ds

-- over a past: the ear samples, the unsettled frames of all calls together, and the past that is stood for then
pub record Over (u : Setup) (p : Place) (cs : List ReplayCall) (past : List (List Float)) : Type 0 where
  pub sounds : sounded_all p cs ≡ heard_by u past (events_all u p cs)
  pub unsettled : sum_of_counts (counts (λ (r : ReplayTold). r.unsettled) p cs)
      ≡ unsettled_by u 0 past (events_all u p cs)
  pub keeps : Represents u (after_by u past (events_all u p cs)) (end p cs).state

pub record ReplayDemand3 : Type 0 where
  -- "Counts of late frames, silent frames and resets equal those of a plain definition over the recorded list": from
  -- any rings and desk
  pub counted : (u : Setup) (p : Place) (cs : List ReplayCall) → ReplayCallsAlike u p cs → Counted u p cs
  -- every frame that is fed is played
  pub all : (u : Setup) (p : Place) (cs : List ReplayCall) → ReplayCallsAlike u p cs
      → length (sounded_all p cs) ≡ length (fed (events_all u p cs))
  -- what is heard and counted and left over any past that the rings and the desk stand for, of which a reset's is the
  -- empty one
  pub over : (u : Setup) (p : Place) (cs : List ReplayCall) → ReplayCallsAlike u p cs → (past : List (List Float))
      → Represents u past p.state → Over u p cs past
  -- (a) "both ear samples at n are document 01's sums", over the frames fed since the last restart
  pub sums : (u : Setup) (p : Place) (cs : List ReplayCall) → Replay u p cs → (n : ℕ)
      → n < length (fed (events_all u p cs))
      → get_or (sounded_all p cs) n [] ≡ ear_samples u (after_by u [] (upto_fed (events_all u p cs) n))
  -- so each part between restarts sounds as its frames do from a reset
  pub parts : (u : Setup) (p : Place) (cs : List ReplayCall) → Replay u p cs
      → sounded_all p cs ≡ heard u [] (first_part (events_all u p cs))
      ++ heard_parts u (later_parts (events_all u p cs))
  -- (b) "If they agree on frame n and the L-1 frames before it", they are "equal in both runs, whatever NaN or noise
  -- came earlier"
  pub equal : (u : Setup) (p q : Place) (cs ds : List ReplayCall) → Replay u p cs → Replay u q ds → (n m : ℕ)
      → n < length (fed (events_all u p cs)) → m < length (fed (events_all u q ds)) → ReplayFramesAgree u p cs n q ds m
      → get_or (sounded_all p cs) n [] ≡ get_or (sounded_all q ds) m []
  -- and they are both unsettled there, or both settled
  pub settled : (u : Setup) (p q : Place) (cs ds : List ReplayCall) (n m : ℕ) → ReplayFramesAgree u p cs n q ds m
      → damaged_among u (events_all u p cs) n ≡ damaged_among u (events_all u q ds) m
  -- (c) "Each call's unsettled count is exactly the number of its frames with a damaged frame among those L"
  pub unsettled : (u : Setup) (p : Place) (cs : List ReplayCall) → Replay u p cs
      → counts (λ (r : ReplayTold). r.unsettled) p cs ≡ damaged_counts u (events_all u p cs) 0 p cs
  -- (d) "each cut into blocks anywhere": the same recorded list, cut as it may be, and refused calls where they may be;
  -- from any rings and desk
  pub cut : (u : Setup) (p : Place) (cs ds : List ReplayCall) → ReplayCallsAlike u p cs → ReplayCallsAlike u p ds
      → taken_all p cs ≡ taken_all p ds → SameReplay p cs ds
