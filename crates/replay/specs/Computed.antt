-- What the functions under `replay` ask and leave. Definitions only; they speak of the program, and nobody has to
-- believe them: the law `accepted_computed` (proofs/Meets.antt) ties them to the promise.
use Rattle.std.specs.Prelude.{◌≡◌, ◌+◌, ◌*◌, ◌≤◌, ◌<◌, ◌^◌, ◌-◌, ◌||◌, ◌∷◌, ◌++◌}
use Rattle.lists.specs.Prelude.{ℕ, Bool, false, not, cond, true, List, [], map, eqb, leb, ltb, length, take, get_or}
use Rattle.lists.specs.Prelude.{drop, replicate, Float}
use Rattle.refusals.specs.Refusals.{outside}
use Rattle.checks.specs.Finite.{has_nonfinite}
use Rattle.checks.specs.Lengths.{block_unfit}
use Rattle.hrtf_desk.specs.declared.Desk.{Desk}
use Rattle.hrtf_history.specs.Setup.{Setup}
use Rattle.hrtf_rings.specs.State.{State, StateFits}
use Rattle.hrtf_rings.specs.Computed.{ears_by_rings, is_unsettled_by_desk, stepped}
use Rattle.hrtf_checks.specs.declared.ConvolverShape.{ConvolverShape}
use Rattle.hrtf_checks.specs.Refusals.{misshapen}
use Rattle.stamps.specs.Arrivals.{Expected}
use Rattle.stamps.specs.declared.Planned.{Planned}
use Rattle.stamps.specs.Counts.{plan_of}
use Rattle.stamps.specs.Events.{Event, feed, restart, Recorded, events_of, restarts_in, fed}
use Rattle.replay.specs.Recording.{Recording, setup_in, recording_in}
use Rattle.replay.specs.Heard.{rested}
use Rattle.formats.specs.Floats.{zero_float}
use Rattle.planes.specs.Planes.{frame_at, frames_of, with_frame, with_frames}
use Rattle.std.specs.Prelude.{Option, None, Some}
use Rattle.stamps.specs.declared.Arrival.{Arrival}
use Rattle.stamps.specs.declared.Arrival.TheVariants.{Next, Ahead, Jump, Late}
use Rattle.stamps.specs.Arrivals.{coming_of, stamp_of, then_of, skipped_of}
use Rattle.stamps.specs.Computed.{feeds_in}
use Rattle.replay.specs.declared.gather.Gathered.{Gathered}
use Rattle.replay.specs.declared.Replayed.{Replayed}
use Rattle.replay.specs.declared.play.Turned.{Turned}

-- a recording, in the order of the code
abbrev pub recording_of : ConvolverShape → ℕ → ℕ → List ℕ → List Float → List Float → List ℕ → List Float → ℕ
    → Recording
recording_of shape frames stride stamps inputs weights rows taps ear_stride =
    record {
      shape = shape;
      frames = frames;
      stride = stride;
      stamps = stamps;
      inputs = inputs;
      weights = weights;
      rows = rows;
      taps = taps;
      ear_stride = ear_stride;
    }

abbrev pub state_with : Desk → List Float → State
state_with d rings = record { rings = rings; desk = d }

-- ---- how a replay is judged before anything is played

abbrev pub places_of : ℕ → ℕ
places_of channels = cond (leb channels 16) (channels * 64) 0

abbrev pub plan_in : Expected → ℕ → ℕ → List ℕ → ℕ → ℕ → ℕ → ℕ → Option Planned
plan_in x frames stride stamps channels inputs ear_stride ears =
    cond (block_unfit (length stamps) 1 inputs channels stride frames || not (eqb ears (2 * ear_stride)))
    None
    (plan_of x (take frames stamps) ear_stride)

abbrev pub refusal_picked : ℕ → Bool → ℕ
refusal_picked judged fits = cond (eqb judged 2) 2 (cond (eqb judged 4) 4 (cond fits judged 5))

-- ---- what the checks have made sure of

pub record RecordingChecked (l : Recording) : Type 0 where
  pub shaped : misshapen l.shape l.rows ≡ false
  pub long : outside l.shape.length 512 ≡ false
  pub weighted : length l.weights ≡ l.shape.speakers * l.shape.channels
  pub tapped : length l.taps ≡ 2 * l.shape.rows * l.shape.length
  pub sound : (has_nonfinite l.weights || has_nonfinite l.taps) ≡ false
  pub stamped : l.frames ≤ length l.stamps

-- of the state, and of the block and its ears
abbrev pub StateReady : Recording → State → Type 0
StateReady l t = StateFits l.shape.speakers l.shape.length t

pub record BlockAndStateFit (l : Recording) (t : State) (block own : List Float) : Type 0 where
  pub state : StateReady l t
  pub blocked : length block ≡ l.shape.channels * 64
  pub eared : length own ≡ 2 * 64

-- ---- events one after another, as the convolver plays them

abbrev pub state_left_by : Setup → State → List (Event (List Float)) → State
state_left_by u t [] = t
state_left_by u t (feed s f ∷ es) = state_left_by u (stepped u t f) es
state_left_by u t (restart ∷ es) = state_left_by u (rested t) es

abbrev pub played_by : Setup → State → List (Event (List Float)) → List (List Float)
played_by u t [] = []
played_by u t (feed s f ∷ es) = ears_by_rings u t f ∷ played_by u (stepped u t f) es
played_by u t (restart ∷ es) = played_by u (rested t) es

abbrev pub unsettled_played_by : Setup → State → List (Event (List Float)) → ℕ
unsettled_played_by u t [] = 0
unsettled_played_by u t (feed s f ∷ es) =
    cond (is_unsettled_by_desk u t f) 1 0 + unsettled_played_by u (stepped u t f) es
unsettled_played_by u t (restart ∷ es) = unsettled_played_by u (rested t) es

-- a frame of silence, as `silent_frame` of `hrtf_history`
abbrev pub silent_frame_of : ℕ → List Float
silent_frame_of channels = replicate channels zero_float

-- what a source answers is f, at every place that there can be
abbrev pub Gives : (ℕ → Float → Type 0) → (ℕ → Float) → Type 0
Gives answers f = (p : ℕ) (x : Float) → p < 2 ^ 64 → answers p x → x ≡ f p

-- ---- gathering: one step

abbrev pub is_gathering_on : Gathered → ℕ → Bool
is_gathering_on g frames = cond g.restart false (cond (leb frames g.at) false (ltb g.count 64))

abbrev pub gathered_by : Arrival → Gathered → ℕ → Gathered
gathered_by Next g s = record {
  count = g.count + 1;
  at = g.at + 1;
  restart = false;
  expected = then_of g.expected s;
}
gathered_by (Ahead d) g s = record {
  count = g.count + 1;
  at = g.at;
  restart = false;
  expected = skipped_of
      g.expected;
}
gathered_by Jump g s = record { count = g.count; at = g.at; restart = true; expected = Some s }
gathered_by Late g s = record { count = g.count; at = g.at + 1; restart = false; expected = g.expected }

-- f and q: the recorded frame, and silence
abbrev pub filled_by : Arrival → List Float → ℕ → List Float → List Float → List Float
filled_by Next block k f q = with_frame block 64 k f
filled_by (Ahead d) block k f q = with_frame block 64 k q
filled_by Jump block k f q = block
filled_by Late block k f q = block

pub record TakesFrame (stamps : List ℕ) (channels stride : ℕ) (inputs : List Float) (g : Gathered) (block : List Float)
    (r : Gathered) (block₁ : List Float) : Type 0 where
  pub below : stamp_of g.expected < 2 ^ 32
  pub stamp : get_or stamps g.at 0 < 2 ^ 32
  pub taken : r ≡ gathered_by (coming_of g.expected (get_or stamps g.at 0)) g (get_or stamps g.at 0)
  pub filled : block₁ ≡ filled_by (coming_of g.expected (get_or stamps g.at 0)) block g.count
      (frame_at inputs stride channels g.at) (silent_frame_of channels)

-- ---- gathering: a block

-- frames that are fed, under these stamps
abbrev pub feeds : List ℕ → List (List Float) → List (Event (List Float))
feeds [] fs = []
feeds (s ∷ ss) [] = []
feeds (s ∷ ss) (f ∷ fs) = feed s f ∷ feeds ss fs

-- the frames that events feed
abbrev pub frames_fed : List (Event (List Float)) → List (List Float)
frames_fed es = map (λ (r : Recorded (List Float)). r.frame) (fed es)

-- a restart, or none
abbrev pub restarting : Bool → List (Event (List Float))
restarting b = cond b (restart ∷ []) []

-- what a recording does from frame k on
abbrev pub events_from : List (Recorded (List Float)) → ℕ → Expected → ℕ → List (Event (List Float))
events_from rs channels x k = events_of (silent_frame_of channels) x (drop k rs)

-- the frames in the block so far, a reset if there is one, and what is left of the recording are what the recording
-- does
pub record Gathering (rs : List (Recorded (List Float))) (channels : ℕ) (x : Expected) (at frames : ℕ) (g : Gathered)
    (block : List Float) : Type 0 where
  pub gone : List (Event (List Float))
  pub whole : restarts_in gone ≡ 0
  pub put : frames_fed gone ≡ frames_of block 64 channels g.count
  pub split : events_from rs channels x at ≡ gone
      ++ (restarting g.restart ++ events_from rs channels g.expected g.at)
  pub few : g.count ≤ 64
  pub on : at ≤ g.at
  pub within : g.at ≤ frames
  pub long : length block ≡ channels * 64

-- the frames in the block, a reset if there is one, and what is left of the recording are what the recording does
pub record Gathers (rs : List (Recorded (List Float))) (channels : ℕ) (x : Expected) (at frames : ℕ) (r : Gathered)
    (block : List Float) : Type 0 where
  pub stamps : List ℕ
  pub as_many : length stamps ≡ r.count
  pub split : events_from rs channels x at ≡ feeds stamps (frames_of block 64 channels r.count)
      ++ (restarting r.restart ++ events_from rs channels r.expected r.at)
  pub few : r.count ≤ 64
  pub on : at ≤ r.at
  pub within : r.at ≤ frames
  -- where a recorded frame is left, the block is full or a reset comes first
  pub goes : r.at < frames → 0 < r.count + cond r.restart 1 0

-- ---- turns: a block is gathered, played, and a reset made where one comes next

-- where a replay starts, and what it answers once it was planned and played
abbrev pub start_of : Desk → Expected → Turned
start_of d x = record { desk = d; expected = x; at = 0; done = 0; unsettled = 0 }

abbrev pub answered_of : Planned → Turned → Replayed
answered_of plan last =
    record {
      samples = plan.out;
      unsettled = last.unsettled;
      late = plan.late;
      silent = plan.silent;
      resets = plan.resets;
      desk = last.desk;
      expected = plan.expected;
    }

-- what the recording does from frame k on
abbrev pub events_at : Recording → Expected → ℕ → List (Event (List Float))
events_at l x k = events_from (recording_in l) l.shape.channels x k

-- what a reset asks, and what it leaves where there is one
pub record ResetFits (speakers L : ℕ) (rings : List Float) : Type 0 where
  pub few : outside speakers 8 ≡ false
  pub long : outside L 512 ≡ false
  pub ringed : length rings ≡ speakers * L

abbrev pub rested_if : Bool → State → State
rested_if again t = cond again (rested t) t

-- a place in the recording, with room for the frames that are still to come out
pub record EarsFit (l : Recording) (p : Turned) : Type 0 where
  pub within : p.at ≤ l.frames
  pub room : p.done + feeds_in (events_at l p.expected p.at) ≤ l.ear_stride
  pub few : p.unsettled ≤ p.done

-- from one place to another: the events between them are played
pub record TurnsPlayed (l : Recording) (p : Turned) (rings ears : List Float) (r : Turned)
    (rings₁ ears₁ : List Float) : Type
    0 where
  pub gone : List (Event (List Float))
  pub split : events_at l p.expected p.at ≡ gone ++ events_at l r.expected r.at
  pub leaves : state_with r.desk rings₁ ≡ state_left_by (setup_in l) (state_with p.desk rings) gone
  pub sounds : ears₁ ≡ with_frames ears l.ear_stride p.done
      (played_by (setup_in l) (state_with p.desk rings) gone)
  pub out : r.done ≡ p.done + feeds_in gone
  pub counts : r.unsettled ≡ p.unsettled + unsettled_played_by (setup_in l) (state_with p.desk rings) gone
  pub within : r.at ≤ l.frames

-- what is left: events, and recorded frames
abbrev pub left_in : Recording → Turned → ℕ
left_in l p = length (events_at l p.expected p.at) + (l.frames - p.at)

pub record TurnPlayed (l : Recording) (p : Turned) (rings ears : List Float) (r : Turned)
    (rings₁ ears₁ : List Float) : Type
    0 where
  pub turns : TurnsPlayed l p rings ears r rings₁ ears₁
  pub moves : p.at < l.frames → left_in l r < left_in l p
