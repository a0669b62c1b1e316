-- What the program computes: the gains as its floats have them. Definitions only. Nobody has to believe them: `Promise`
-- ties them to the documents' formulas.
use Rattle.lists.specs.Prelude.{ℕ, Bool, false, cond, List, ltb, pos, get_or, Float, nan, binary64, lt, neg, add, sub}
use Rattle.lists.specs.Prelude.{mul, div}
use Rattle.series.specs.Sums.{cosine}
use Rattle.angles.specs.Promise as Angles
use Rattle.formats.specs.Floats.{zero_float, float}
use Rattle.lists.specs.Tables.{tab}
use Rattle.planes.specs.Sums.{total}
use Rattle.channel.specs.Layouts.{low_frequency, azimuth_of}
use Rattle.channel.specs.declared.Layout.{Layout}

unfoldable pub absolute : Float → Float
absolute x = cond (lt x zero_float) (neg x) x

unfoldable pub not_below : Float → Float
not_below x = cond (lt x zero_float) zero_float x

unfoldable pub turned_towards : Float → Float → Float
turned_towards a s = cond (lt (add binary64 s (float (pos 180))) a) (add binary64 s (float (pos 360)))
    (cond (lt a (sub binary64 s (float (pos 180)))) (sub binary64 s (float (pos 360))) s)

unfoldable pub is_near : Float → Float → Bool
is_near a t = cond (lt (sub binary64 t (float (pos 90))) a) (lt a (add binary64 t (float (pos 90)))) false

unfoldable pub way_of : Float → Float → Float
way_of a t = absolute (sub binary64 a t)

unfoldable pub raw_of : Float → Float → Float
raw_of a s = cond (is_near a (turned_towards a s))
    (not_below (Angles.outcome cosine (way_of a (turned_towards a s))).value)
    zero_float

unfoldable pub channel_gain : Layout → Float → ℕ → Float
channel_gain l a c = cond (low_frequency l c) zero_float (raw_of a (azimuth_of l c))

-- the first n of sixteen places
unfoldable pub raw_gains : Layout → Float → ℕ → List Float
raw_gains l a n = tab 0 16 (λ c. cond (ltb c n) (channel_gain l a c) zero_float)

abbrev pub square_at : List Float → ℕ → Float
square_at xs c = mul binary64 (get_or xs c nan) (get_or xs c nan)

-- the f64 sum of the squares of the first n, from 0.0
unfoldable pub sum_of : ℕ → List Float → Float
sum_of n xs = total zero_float (tab 0 n (square_at xs))

unfoldable pub divided_by : Float → List Float → List Float
divided_by r xs = tab 0 16 (λ c. div binary64 (get_or xs c nan) r)
