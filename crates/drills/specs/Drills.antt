-- Document 02, E1: "Demand 3 reads on the frames after encoding." A drill is two lists of calls: `script::render`
-- encodes samples into planes, one for each channel of the order, and `hrtf::process` plays such planes to the ears. A
-- call of either kind may be refused; it then passes nothing on. Definitions only.
use Rattle.std.specs.Prelude.{◌≡◌, ◌∷◌, ◌++◌}
use Rattle.lists.specs.Prelude.{ℕ, List, [], Float}
use Rattle.refusals.specs.Refusals.{answered}
use Rattle.channel.specs.Orders.{channels_of_order}
use Rattle.cues.specs.declared.Cue.{Cue}
use Rattle.script.specs.Rendering.{rendered}
use Rattle.script.specs.Stretches as Script
use Rattle.hrtf_history.specs.Setup.{Setup}
use Rattle.hrtf_rings.specs.State.{State}
use Rattle.hrtf_checks.specs.Call.{BlockCall}
use Rattle.hrtf_checks.specs.Refusals.{refusal_of}
use Rattle.hrtf_runs.specs.Runs.{next, fed_all, sounded_all}
use Rattle.hrtf_runs.specs.Demand.{Run}

pub record Drill : Type 0 where
  -- the cues and the order of every call of `render`, the frame number of the first sample, and the calls
  pub cues : List Cue
  pub order : ℕ
  pub first : ℕ
  pub renders : List Script.RenderCall
  -- the rings and the desk before the first call of `process`, and the calls
  pub start : State
  pub plays : List BlockCall

-- ---- the frames

-- the samples that are encoded
abbrev pub drill_samples : Drill → List Float
drill_samples d = Script.fed_all d.cues d.order d.first d.renders

-- "the frames after encoding": for each sample one frame, by the voice at its frame number
abbrev pub encoded : Drill → List (List Float)
encoded d = rendered d.cues d.order d.first (drill_samples d)

-- the frames that the calls of `render` say they played, read from the output planes as they leave them
abbrev pub frames_put : Drill → List (List Float)
frames_put d = Script.sounded_all d.cues d.order d.first d.renders

-- the frames that the calls of `process` read from the planes that they are lent
abbrev pub fed : Drill → List (List Float)
fed d = fed_all d.start d.plays

-- the ear samples of each
abbrev pub drill_heard : Drill → List (List Float)
drill_heard d = sounded_all d.start d.plays

-- the convolver runs from a reset, set up for the channels of the order, and is fed the frames that `render` put, in
-- order. How the frames are cut into calls, and at which stride they stand, may differ between the two
pub record Drilled (u : Setup) (d : Drill) : Type 0 where
  pub run : Run u d.start d.plays
  pub channels : u.channels ≡ channels_of_order d.order
  pub passed : fed d ≡ frames_put d

-- ---- the planes

-- planes in one list at a stride, and how many frames stand in them
pub record Planes : Type 0 where
  pub list : List Float
  pub stride : ℕ
  pub frames : ℕ

-- what a call passes on, by its number: nothing where it is refused
abbrev pub passing : ℕ → Planes → List Planes
passing n p = answered n (p ∷ []) (λ k. [])

module _ (cues : List Cue) (order : ℕ) where
  -- the output planes as a call of `render` from the frame f on leaves them
  abbrev pub outputs : Script.RenderCall → ℕ → Planes
  outputs c f = record { list = (Script.block_at cues order c f).out; stride = c.stride; frames = c.frames }

  -- those of calls one after another
  abbrev pub leaves : ℕ → List Script.RenderCall → List Planes
  leaves f [] = []
  leaves f (c ∷ cs) = passing (Script.refusal_at cues order c f) (outputs c f) ++ leaves (Script.next cues order c f) cs

abbrev pub planes_left : Drill → List Planes
planes_left d = leaves d.cues d.order d.first d.renders

-- the input planes that a call of `process` is lent, and those of calls one after another
abbrev pub inputs : BlockCall → Planes
inputs c = record { list = c.inputs; stride = c.stride; frames = c.frames }

abbrev pub takes : State → List BlockCall → List Planes
takes t [] = []
takes t (c ∷ cs) = passing (refusal_of c t) (inputs c) ++ takes (next c t) cs

abbrev pub planes_taken : Drill → List Planes
planes_taken d = takes d.start d.plays
