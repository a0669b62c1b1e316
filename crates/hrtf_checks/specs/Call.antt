-- All that is handed to one call of `process` but the rings and the desk, and what it sets up. Definitions only.
use Rattle.lists.specs.Prelude.{ℕ, List, Float}
use Rattle.planes.specs.Planes.{frames_of}
use Rattle.hrtf_history.specs.Setup.{Setup}
use Rattle.hrtf_checks.specs.declared.ConvolverShape.{ConvolverShape}

pub record BlockCall : Type 0 where
  pub shape : ConvolverShape
  pub frames : ℕ
  pub stride : ℕ
  pub inputs : List Float
  pub weights : List Float
  pub rows : List ℕ
  pub taps : List Float
  pub ears : List Float

abbrev pub setup_of : ConvolverShape → List Float → List ℕ → List Float → Setup
setup_of h weights rows taps = record {
  channels = h.channels;
  speakers = h.speakers;
  L = h.length;
  weights = weights;
  taps = taps;
  rows = rows;
}

abbrev pub setup : BlockCall → Setup
setup c = setup_of c.shape c.weights c.rows c.taps

-- the frames of its input planes, in the order of time
abbrev pub frames_in : BlockCall → List (List Float)
frames_in c = frames_of c.inputs c.stride c.shape.channels c.frames
