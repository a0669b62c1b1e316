-- What the program computes: the angle as its floats have it. Definitions only. Nobody has to believe them: `Promise`
-- ties the gains to document 01's formula.
use Rattle.lists.specs.Prelude.{cond, pos, negsuc, Float, binary64, lt, add, mul, div}
use Rattle.formats.specs.Floats.{float}

unfoldable pub clamped_to : Float → Float
clamped_to p = cond (lt p (float (negsuc 99))) (float (negsuc 99)) (cond (lt (float (pos 100)) p) (float (pos 100)) p)

-- (c + 100) / 200 * 90, each operation rounded once
abbrev pub angle_from : Float → Float
angle_from c = mul binary64 (div binary64 (add binary64 c (float (pos 100))) (float (pos 200))) (float (pos 90))

unfoldable pub angle_of : Float → Float
angle_of p = angle_from (clamped_to p)
