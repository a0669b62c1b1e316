-- A float whose zero has no sign. Document 01's sums are "from 0.0", and see no sign of a zero that is added or
-- multiplied: so two answers are compared without it where bits alone would differ in it. Definitions only.
use Rattle.std.specs.Prelude.{◌≡◌}
use Rattle.lists.specs.Prelude.{zero, suc, false, Float, nan, inf, fin, neg}

-- two floats are the same but for the sign of a zero when these are equal
abbrev pub unsigned_zero : Float → Float
unsigned_zero nan = nan
unsigned_zero (inf s) = inf s
unsigned_zero (fin s zero e) = fin false zero e
unsigned_zero (fin s (suc m) e) = fin s (suc m) e

-- x is y with the other sign, but for the sign of a zero
abbrev pub Opposite : Float → Float → Type 0
Opposite x y = unsigned_zero x ≡ unsigned_zero (neg y)
