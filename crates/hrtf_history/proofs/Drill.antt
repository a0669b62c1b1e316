-- Drill table 8 and 9: "One speaker, weight 1, L = 2, left taps 1, 0.5, right 0, 1, samples 1, 0, 0: left 1, 0.5, 0;
-- right 0, 1, 0", and "The same with NaN, 0, 0: two unsettled, then 0 and 0." By computing the definitions. Assumes
-- nothing.
use Rattle.std.specs.Prelude.{◌≡◌, ◌∷◌}
use Rattle.lists.specs.Prelude.{refl, false, true, [], nan, add, mul, div, sum, round, size, span, climb, units, odd}
use Rattle.lists.specs.Prelude.{of_int}
use Rattle.formats.specs.Floats.{zero_float, one_float, half_float}
use Rattle.numbers.specs.Computed.{rounded, root_of, root_units, whole_root, root_in}
use Rattle.planes.specs.Sums.{mixed}
use Rattle.numbers.specs.Normalization.{inverse_root_of}
use Rattle.hrtf_history.specs.History.{ear_of, heard, unsettled_each, unsettled_in}
use Rattle.hrtf_history.specs.Drill.{drill, samples}

pub drill_8 : heard drill [] (samples one_float) ≡ (one_float ∷ zero_float ∷ []) ∷ (half_float ∷ one_float ∷ [])
    ∷ (zero_float ∷ zero_float ∷ []) ∷ []
unfolding mixed ear_of inverse_root_of root_of root_units whole_root root_in rounded add mul div sum round size span
    climb units
    odd of_int
drill_8 = refl

pub drill_9 : unsettled_in drill 0 [] (samples nan) ≡ 2
unfolding mixed rounded add mul sum round size span climb units odd
drill_9 = refl

pub drill_9_heard : heard drill [] (samples nan) ≡ (nan ∷ nan ∷ []) ∷ (nan ∷ nan ∷ []) ∷ (zero_float ∷ zero_float ∷ [])
    ∷ []
unfolding mixed ear_of inverse_root_of root_of root_units whole_root root_in rounded add mul div sum round size span
    climb units
    odd of_int
drill_9_heard = refl

-- the two that are unsettled are the first two
pub drill_9_each : unsettled_each drill 0 [] (samples nan) ≡ true ∷ true ∷ false ∷ []
unfolding mixed rounded add mul sum round size span climb units odd
drill_9_each = refl
