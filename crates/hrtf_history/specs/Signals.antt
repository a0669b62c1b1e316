-- Document 01, 'Sums': "per frame and speaker, the signal is the f64 sum from 0.0 over channels rising, narrowed to
-- f32", and "A frame is damaged when one of its speaker signals is NaN or infinite." Definitions only. A frame is a
-- list of one sample for each channel.
use Rattle.lists.specs.Prelude.{ℕ, Bool, List, replicate, Float}
use Rattle.formats.specs.Floats.{zero_float}
use Rattle.lists.specs.Tables.{tab}
use Rattle.checks.specs.Finite.{has_nonfinite}
use Rattle.planes.specs.Sums.{mixed}
use Rattle.hrtf_history.specs.Setup.{Setup, weights_of}

-- speaker s's signal
abbrev pub signal : Setup → ℕ → List Float → Float
signal u s frame = mixed (weights_of u s) frame

-- the signals of speakers 0, 1, ..
abbrev pub signals : Setup → List Float → List Float
signals u frame = tab 0 u.speakers (λ s. signal u s frame)

abbrev pub damaged : Setup → List Float → Bool
damaged u frame = has_nonfinite (signals u frame)

-- a frame of silence
abbrev pub silent_frame : Setup → List Float
silent_frame u = replicate u.channels zero_float
