-- Document 01, 'Gains', stereo: "p clamped so that (p+100)/200 is in 0..1; left is the cosine, right the sine, of 90
-- times that." Definitions only, over fractions: nothing is rounded here.
use Rattle.lists.specs.Prelude.{cond}
use Rattle.fractions.specs.Fraction.{Fraction, whole, opposite, ◌⊕◌, ◌⊗◌, ◌⊘◌, is_less}

abbrev pub leftmost : Fraction
leftmost = opposite (whole 100)

abbrev pub rightmost : Fraction
rightmost = whole 100

unfoldable pub clamped : Fraction → Fraction
clamped p = cond (is_less p leftmost) leftmost (cond (is_less rightmost p) rightmost p)

-- in degrees
unfoldable pub angle : Fraction → Fraction
angle p = whole 90 ⊗ ((clamped p ⊕ whole 100) ⊘ whole 200)
