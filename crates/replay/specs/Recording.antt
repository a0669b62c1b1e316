-- The recording that one call of `replay` is lent (`Recording`), with the shape, weights and filters that hold for all
-- of it; its stamps and frames, and the events that they make (document 02, E5: "The line recorder keeps 5.1 frames,
-- each with a 32-bit stamp"). The stamps are one plane, at the stride of the input planes; the ear planes have a stride
-- of their own. Definitions only.
use Rattle.lists.specs.Prelude.{ℕ, List, get_or, take, Float}
use Rattle.lists.specs.Tables.{tab}
use Rattle.planes.specs.Planes.{frame_at}
use Rattle.hrtf_history.specs.Setup.{Setup}
use Rattle.hrtf_history.specs.Signals.{silent_frame}
use Rattle.hrtf_checks.specs.declared.ConvolverShape.{ConvolverShape}
use Rattle.hrtf_checks.specs.Call.{setup_of}
use Rattle.stamps.specs.Arrivals.{Expected}
use Rattle.stamps.specs.Events.{Recorded, Event, events_of}

pub record Recording : Type 0 where
  pub shape : ConvolverShape
  pub frames : ℕ
  pub stride : ℕ
  pub stamps : List ℕ
  pub inputs : List Float
  pub weights : List Float
  pub rows : List ℕ
  pub taps : List Float
  pub ear_stride : ℕ

abbrev pub setup_in : Recording → Setup
setup_in l = setup_of l.shape l.weights l.rows l.taps

-- the stamps of the recorded frames
abbrev pub stamps_in : Recording → List ℕ
stamps_in l = take l.frames l.stamps

-- recorded frame k of stamps and input planes: its stamp, and its samples
abbrev pub recorded_at : List ℕ → ℕ → ℕ → List Float → ℕ → Recorded (List Float)
recorded_at stamps channels stride inputs k =
    record { stamp = get_or stamps k 0; frame = frame_at inputs stride channels k }

-- the first of them, in their order
abbrev pub recording : List ℕ → ℕ → ℕ → List Float → ℕ → List (Recorded (List Float))
recording stamps channels stride inputs frames = tab 0 frames (recorded_at stamps channels stride inputs)

abbrev pub recording_in : Recording → List (Recorded (List Float))
recording_in l = recording l.stamps l.shape.channels l.stride l.inputs l.frames

-- what they do, x being expected: frames that are fed, each with its stamp, and restarts
abbrev pub events_in : Recording → Expected → List (Event (List Float))
events_in l x = events_of (silent_frame (setup_in l)) x (recording_in l)
