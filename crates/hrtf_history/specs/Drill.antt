-- Document 01, 'Marked drill table' 8 and 9, what is played there: "One speaker, weight 1, L = 2, left taps 1, 0.5,
-- right 0, 1, samples 1, 0, 0", and "The same with NaN, 0, 0". Definitions only.
use Rattle.std.specs.Prelude.{◌∷◌}
use Rattle.lists.specs.Prelude.{List, [], Float}
use Rattle.formats.specs.Floats.{zero_float, one_float, half_float}
use Rattle.hrtf_history.specs.Setup.{Setup}

-- one speaker with those taps, at a weight
abbrev pub one_speaker : Float → Setup
one_speaker weight = record {
  channels = 1;
  speakers = 1;
  L = 2;
  weights = weight ∷ [];
  taps = one_float ∷ half_float
      ∷ zero_float ∷ one_float ∷ [];
  rows = 0 ∷ 0 ∷ 0 ∷ 0 ∷ 0 ∷ 0 ∷ 0 ∷ 0 ∷ [];
}

abbrev pub drill : Setup
drill = one_speaker one_float

-- samples x, 0, 0
abbrev pub samples : Float → List (List Float)
samples x = (x ∷ []) ∷ (zero_float ∷ []) ∷ (zero_float ∷ []) ∷ []
