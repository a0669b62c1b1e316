-- Calls in states that no run from a reset leads to, which the promise of `process` answers like any other. By
-- computing the definitions. Assumes nothing.
use Rattle.std.specs.Prelude.{◌≡◌, ◌∷◌}
use Rattle.lists.specs.Prelude.{refl, true, false, List, [], flatten, pos, negsuc, replicate, Float, fin, add, mul, div}
use Rattle.lists.specs.Prelude.{round, size, span, climb, units, odd, of_int}
use lib.Ieee as ieee
use Rattle.formats.specs.Floats.{zero_float, one_float, half_float}
use Rattle.numbers.specs.Computed.{rounded, root_of, root_units, whole_root, root_in}
use Rattle.planes.specs.Sums.{mixed}
use Rattle.numbers.specs.Normalization.{inverse_root_of}
use Rattle.hrtf_history.specs.History.{ear_of}
use Rattle.hrtf_history.specs.Drill.{drill}
use Rattle.hrtf_checks.specs.Call.{BlockCall}
use Rattle.hrtf_checks.specs.Refusals.{refusal_of}
use Rattle.hrtf.specs.Promise.{BlockOutcome, outcome}
use Rattle.hrtf_runs.proofs.Worked.{block}

abbrev quarter : Float
quarter = fin false 1 (negsuc 1)

abbrev minus_zero : Float
minus_zero = fin true 0 (pos 0)

-- what a block of one frame answers that leaves one of two cells to be written next
abbrev one : List Float → List Float → BlockOutcome
one rings ears =
    record {
      answer = record { refusal = 0; samples = 1; unsettled = 0; desk = record { position = 0; to_go = 0 } };
      rings = rings;
      ears = ears;
    }

-- one speaker, L = 2: 0.5 was put, and the weight is now 0.0. The 0.5 is heard through the second tap of each ear
other_weight : outcome (block 1 (one_float ∷ []) zero_float)
    (record { rings = half_float ∷ zero_float ∷ []; desk = record { position = 1; to_go = 0 } })
    ≡ one (half_float ∷ zero_float ∷ []) (quarter ∷ half_float ∷ [])
unfolding refusal_of outcome flatten mixed ear_of inverse_root_of root_of root_units whole_root root_in rounded add mul
    div
    ieee.sum round size span climb units odd of_int
other_weight = refl

-- -0.0 in every cell: at the weight 1.0 no signal is that, since each sum begins at 0.0
minus_zeros : outcome (block 1 (zero_float ∷ []) one_float)
    (record { rings = minus_zero ∷ minus_zero ∷ []; desk = record { position = 1; to_go = 0 } })
    ≡ one (minus_zero ∷ zero_float ∷ []) (zero_float ∷ zero_float ∷ [])
unfolding refusal_of outcome flatten mixed ear_of inverse_root_of root_of root_units whole_root root_in rounded add mul
    div
    ieee.sum round size span climb units odd of_int
minus_zeros = refl

-- L = 3, every cell 0.0 and one frame to go: of two frames of silence the first is unsettled
abbrev three : BlockCall
three =
    record {
      shape = record { channels = 1; speakers = 1; rows = 1; length = 3 };
      frames = 2;
      stride = 2;
      inputs = zero_float ∷ zero_float ∷ [];
      weights = one_float ∷ [];
      rows = drill.rows;
      taps = replicate 6 one_float;
      ears = replicate 4 one_float;
    }

one_to_go : outcome three (record { rings = replicate 3 zero_float; desk = record { position = 0; to_go = 1 } })
    ≡ record {
      answer = record { refusal = 0; samples = 2; unsettled = 1; desk = record { position = 2; to_go = 0 } };
      rings = replicate 3 zero_float;
      ears = replicate 4 zero_float;
    }
unfolding refusal_of outcome flatten mixed ear_of inverse_root_of root_of root_units whole_root root_in rounded add mul
    div
    ieee.sum round size span climb units odd of_int
one_to_go = refl
