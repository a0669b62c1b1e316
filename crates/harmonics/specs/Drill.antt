-- Document 01, 'Marked drill table', items 1 to 3: "1. Order 3 at (0,0): channels 0, 3, 6, 8, 13, 15 are 1, 1, -0.5, h,
-- -m, q; the rest 0. 2. Order 1 at (90,0): 1, 1, 0, 0. 3. Elevation 90: channels 2, 6, 12 are 1; 1 and 3 are 0."
-- Definitions only. A float is told by its number, since some of the zeros have a sign.
use Rattle.std.specs.Prelude.{◌∷◌}
use Rattle.lists.specs.Prelude.{ℕ, List, [], map, pos, get_or}
use Rattle.lists.specs.Pairwise.{Pairwise}
use Rattle.formats.specs.Floats.{float, decimal}
use Rattle.fractions.specs.Fraction.{Fraction, fraction, number, whole, opposite, Same}
use Rattle.harmonics.specs.Promise.{outcome}
use Rattle.harmonics.specs.declared.Direction.{Direction}

abbrev pub at : ℕ → ℕ → Direction
at azimuth elevation = record { azimuth = float (pos azimuth); elevation = float (pos elevation) }

-- the numbers of the floats that the program gives
abbrev pub given : ℕ → Direction → List Fraction
given order d = map number (outcome order d).gains

-- as many numbers as numbers, the same in each place
abbrev pub SameNumbers : List Fraction → List Fraction → Type 0
SameNumbers = Pairwise Same

abbrev pub zero_gain : Fraction
zero_gain = whole 0

-- ---- 1. Order 3 at (0,0). In floats h, m and q are the literals
abbrev pub front : Fraction → Fraction → Fraction → List Fraction
front h m q = whole 1 ∷ zero_gain ∷ zero_gain ∷ whole 1 ∷ zero_gain ∷ zero_gain ∷ opposite (fraction 1 0 2) ∷ zero_gain
    ∷ h ∷ zero_gain ∷ zero_gain ∷ zero_gain
    ∷ zero_gain ∷ opposite m ∷ zero_gain ∷ q ∷ []

abbrev pub front_floats : List Fraction
front_floats =
    front (number (decimal 8660254037844386)) (number (decimal 6123724356957945)) (number (decimal 7905694150420949))

-- ---- 2. Order 1 at (90,0)
abbrev pub left_gains : List Fraction
left_gains = whole 1 ∷ whole 1 ∷ zero_gain ∷ zero_gain ∷ zero_gain ∷ zero_gain ∷ zero_gain ∷ zero_gain ∷ zero_gain
    ∷ zero_gain ∷ zero_gain ∷ zero_gain ∷ zero_gain ∷ zero_gain ∷ zero_gain
    ∷ zero_gain ∷ []

-- ---- 3. Elevation 90, at any azimuth
pub record Above (gains : List Fraction) : Type 0 where
  pub one : Same (get_or gains 1 zero_gain) zero_gain
  pub two : Same (get_or gains 2 zero_gain) (whole 1)
  pub three : Same (get_or gains 3 zero_gain) zero_gain
  pub six : Same (get_or gains 6 zero_gain) (whole 1)
  pub twelve : Same (get_or gains 12 zero_gain) (whole 1)
