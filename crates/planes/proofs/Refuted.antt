-- Wrong answers of another shape, refuted on a worked frame of three channels with weights of 1.0: channels added from
-- the last to the first, a sum that is narrowed at each channel, and damage judged on the sum before it is narrowed.
-- Assumes nothing.
use Rattle.std.specs.Prelude.{◌≡◌, ◌∷◌}
use Rattle.lists.specs.Prelude.{ap, true, false, true≢false, List, [], reverse, pos, Float, fin, binary64, add, mul}
use Rattle.lists.specs.Prelude.{round, sum, size, span, climb, units, odd}
use lib.Ieee.Positive.{positive}
use Rattle.formats.specs.Floats.{zero_float}
use Rattle.numbers.specs.Computed.{rounded, narrowed}
use Rattle.checks.specs.Finite.{has_nonfinite}
use Rattle.planes.specs.Sums.{dot, mixed}

abbrev one : Float
one = fin false 1 (pos 0)

abbrev ones : List Float
ones = one ∷ one ∷ one ∷ []

-- 2^60, -2^60 and 1.0: the last is lost where it is added first
abbrev large_first : List Float
large_first = fin false 1 (pos 60) ∷ fin true 1 (pos 60) ∷ one ∷ []

channels_falling : mixed ones large_first ≡ narrowed (dot zero_float (reverse large_first) ones) → ⊥
unfolding mixed add mul sum round rounded size span climb units odd
channels_falling h = true≢false (ap positive h)

-- 2^24, 1.0 and -2^24: an f32 has no place for the 1.0 beside 2^24
abbrev small_between : List Float
small_between = fin false 1 (pos 24) ∷ one ∷ fin true 1 (pos 24) ∷ []

abbrev narrowing : Float → List Float → List Float → Float
narrowing a [] ys = a
narrowing a (x ∷ xs) [] = a
narrowing a (x ∷ xs) (y ∷ ys) = narrowing (narrowed (add binary64 a (mul binary64 x y))) xs ys

narrowed_at_each_channel : mixed ones small_between ≡ narrowing zero_float small_between ones → ⊥
unfolding mixed add mul sum round rounded size span climb units odd
narrowed_at_each_channel h = true≢false (ap positive h)

-- 2^127 twice: the sum is finite in f64 alone
abbrev loud : List Float
loud = fin false 1 (pos 127) ∷ fin false 1 (pos 127) ∷ []

judged_before_narrowing : has_nonfinite (mixed ones loud ∷ []) ≡ has_nonfinite (dot zero_float loud ones ∷ []) → ⊥
unfolding mixed add mul sum round rounded size span climb units odd
judged_before_narrowing h = true≢false h
