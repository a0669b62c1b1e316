-- Document 01, 'Angles': "The sine is defined over fractions of whole numbers: reduce by 360 into -180 < d <= 180, take
-- x = d x 3141592653589793238 / (180 x 10^18), and sum [..]. At multiples of 90 the defined value is the exact 0, 1 or
-- -1 instead." d is an angle in degrees, and any fraction of whole numbers. Definitions only.
use Rattle.std.specs.Prelude.{◌+◌, ◌-◌, ◌*◌, ◌/◌, ◌%◌, ◌^◌, ◌∷◌}
use Rattle.lists.specs.Prelude.{ℕ, Bool, cond, List, [], leb, eqb, get_or}
use Rattle.fractions.specs.Fraction.{Fraction, fraction, whole, opposite, ◌⊕◌, ◌⊗◌, Same, Less, AtMost}
use Rattle.series.specs.Sums.{Wave, sine, cosine, sum}

-- ---- reduce by 360

-- d, turned round by whole turns into 0 <= d < 360: a whole number, over d.over
unfoldable pub turned : Fraction → ℕ
turned d = (d.plus + (360 * d.over - d.minus % (360 * d.over))) % (360 * d.over)

-- into -180 < d <= 180: the angle r / o, and 360 less where it is above 180
unfoldable pub around : ℕ → ℕ → Fraction
around r o = cond (leb r (180 * o)) (fraction r 0 o) (fraction r (360 * o) o)

unfoldable pub reduced : Fraction → Fraction
reduced d = around (turned d) d.over

-- what that asks of the reduced angle r, in document 01's words: some number of turns away from d, and above -180, and
-- at most 180. `reduced d` is such an angle, and there is no other (proofs/Reduction.antt: `reduces`,
-- `reduced_unique`).
pub record Reduces (d r : Fraction) : Type 0 where
  pub turns : (m : ℕ) × (n : ℕ) × Same (d ⊕ whole (360 * m)) (r ⊕ whole (360 * n))
  pub above : Less (opposite (whole 180)) r
  pub most : AtMost r (whole 180)

-- ---- x = d x 3141592653589793238 / (180 x 10^18)
abbrev pub degree : Fraction
degree = fraction 3141592653589793238 0 (180 * 10 ^ 18)

unfoldable pub radians : Fraction → Fraction
radians d = d ⊗ degree

-- ---- at multiples of 90: at 90 times a whole number, and nowhere else (proofs/Laws.antt: `defined_multiple`,
-- `multiple_only`)
unfoldable pub is_multiple : Fraction → Bool
is_multiple d = eqb (turned d % (90 * d.over)) 0

-- how many times 90, of the angle turned into 0 <= d < 360
unfoldable pub quarters : Fraction → ℕ
quarters d = turned d / (90 * d.over)

-- at 0, 90, 180 and 270
abbrev pub exact : Wave → List Fraction
exact sine = whole 0 ∷ whole 1 ∷ whole 0 ∷ opposite (whole 1) ∷ []
exact cosine = whole 1 ∷ whole 0 ∷ opposite (whole 1) ∷ whole 0 ∷ []

-- ---- the defined values
unfoldable pub defined : Wave → Fraction → Fraction
defined w d = cond (is_multiple d) (get_or (exact w) (quarters d) (whole 0)) (sum w (radians (reduced d)))

abbrev pub defined_sine : Fraction → Fraction
defined_sine = defined sine

abbrev pub defined_cosine : Fraction → Fraction
defined_cosine = defined cosine
