-- Document 01, 'Refusal numbers' 7: "a weight or filter tap is NaN or infinite". Definitions only.
use Rattle.std.specs.Prelude.{◌||◌, ◌∷◌}
use Rattle.lists.specs.Prelude.{Bool, false, not, List, [], Float}
use Rattle.std.specs.Float.Ieee.Scale.{finite}

-- one of them is NaN or infinite
abbrev pub has_nonfinite : List Float → Bool
has_nonfinite [] = false
has_nonfinite (x ∷ xs) = not (finite x) || has_nonfinite xs
