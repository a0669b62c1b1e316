-- The order of each sum tells: on worked numbers 1, 2^60 and -2^60 the document's order gives 0.0, where the other way
-- round gives 1.0. And a signal is narrowed: 1 + 2^-24 is no f32; and the sum is times 1.0/root(speakers), which is not
-- the same as divided by the root, or by that. By computing the definitions. Assumes nothing.
use Rattle.std.specs.Prelude.{◌≡◌, ◌∷◌, ◌++◌}
use Rattle.lists.specs.Prelude.{refl, true, false, cond, List, [], reverse, pos, negsuc, eqb, Float, fin, binary64, add}
use Rattle.lists.specs.Prelude.{mul, div, sum, round, size, span, climb, units, odd, of_int}
use Rattle.formats.specs.Floats.{zero_float, one_float, float}
use Rattle.numbers.specs.Computed.{rounded, narrowed, root_of, root_units, whole_root, root_in}
use Rattle.planes.specs.Sums.{dot, total, mixed}
use Rattle.hrtf_history.specs.Setup.{Setup, taps_of}
use Rattle.numbers.specs.Normalization.{inverse_root_of}
use Rattle.hrtf_history.specs.History.{window, part, ear_of}

-- 1, 2^60, -2^60
rising : List Float
rising = one_float ∷ fin false 1 (pos 60) ∷ fin true 1 (pos 60) ∷ []

-- three channels or three frames of 1
ones : List Float
ones = one_float ∷ one_float ∷ one_float ∷ []

-- ---- channels rising

channels_rising : mixed rising ones ≡ zero_float
unfolding rising ones mixed rounded add mul sum round size span climb units odd
channels_rising = refl

channels_falling : mixed (reverse rising) (reverse ones) ≡ one_float
unfolding rising ones mixed rounded add mul sum round size span climb units odd
channels_falling = refl

-- ---- k from 0 to L-1

-- one speaker, weight 1, L = 3
filtering : Setup
filtering = record { channels = 1; speakers = 1; L = 3; weights = one_float ∷ []; taps = rising ++ ones; rows = 0 ∷ [] }

newest_first : part filtering 0 ((one_float ∷ []) ∷ (one_float ∷ []) ∷ (one_float ∷ []) ∷ []) 0 ≡ zero_float
unfolding filtering rising ones mixed rounded add mul sum round size span climb units odd
newest_first = refl

oldest_first_lem : dot zero_float
    (reverse (window filtering 0 ((one_float ∷ []) ∷ (one_float ∷ []) ∷ (one_float ∷ []) ∷ [])))
    (reverse (taps_of filtering 0 0)) ≡ one_float
unfolding filtering rising ones mixed rounded add mul sum round size span climb units odd
oldest_first_lem = refl

-- ---- speakers rising

speakers_rising : total zero_float rising ≡ zero_float
unfolding rising add sum round size span climb units odd
speakers_rising = refl

speakers_falling : total zero_float (reverse rising) ≡ one_float
unfolding rising add sum round size span climb units odd
speakers_falling = refl

-- ---- narrowed

narrowed_signal : mixed (one_float ∷ fin false 1 (negsuc 23) ∷ []) (one_float ∷ one_float ∷ []) ≡ one_float
unfolding mixed rounded add mul sum round size span climb units odd
narrowed_signal = refl

-- ---- times 1.0/root(speakers): two speakers, of which one sounds. Divided by the root it would be the next f32, and
-- divided by
-- 1.0/root(speakers) about twice as much

sounding : Float
sounding = fin false 0x197BB9E0258965 (negsuc 51)

times_the_inverse : ear_of 2 (λ s. cond (eqb s 0) sounding zero_float) ≡ fin false 0x2409F1 (negsuc 20)
unfolding sounding ear_of inverse_root_of root_of root_units whole_root root_in rounded add mul div sum round size
    span climb
    units odd of_int
times_the_inverse = refl

divided_by_the_root : narrowed (div binary64 sounding (root_of binary64 (float (pos 2)))) ≡ fin false 0x9027C5
    (negsuc 22)
unfolding sounding root_of root_units whole_root root_in rounded div sum round size span climb units odd of_int
divided_by_the_root = refl

divided_by_the_inverse : narrowed (div binary64 sounding (inverse_root_of 2)) ≡ fin false 0x9027C5 (negsuc 21)
unfolding sounding inverse_root_of root_of root_units whole_root root_in rounded div sum round size span climb units
    odd of_int
divided_by_the_inverse = refl
