-- Document 01, 'Conversions and roots': "The root of a finite number is the f64 nearest the exact root, said by squares
-- of whole numbers; -0.0 gives -0.0." and refusal 10: "root of a NaN, an infinity or a number below zero". Definitions
-- only.
use Rattle.std.specs.Prelude.{◌⊎◌}
use Rattle.lists.specs.Prelude.{Bool, true, false, zero, suc, T, Float, nan, inf, fin, Format, fits}
use Rattle.std.specs.Float.Ieee.Scale.{finite}
use Rattle.fractions.specs.Fraction.{Fraction, whole, number, ◌⊕◌, ◌⊗◌, square, Less, AtMost}

-- a NaN, an infinity or a number below zero
abbrev pub rootless : Float → Bool
rootless nan = true
rootless (inf s) = true
rootless (fin s zero e) = false
rootless (fin s (suc m) e) = s

-- half of z lies above the root of x, and below it
abbrev pub HalfAbove : Fraction → Fraction → Type 0
HalfAbove z x = AtMost (whole 0) z × Less (whole 4 ⊗ x) (square z)

abbrev pub HalfBelow : Fraction → Fraction → Type 0
HalfBelow z x = Less z (whole 0) ⊎ Less (square z) (whole 4 ⊗ x)

-- r is a value of the format, and no other value y of the format is as near to the root of x: the root lies on r's side
-- of the middle between the two, which is half of their sum
pub record NearestRoot (f : Format) (x r : Float) : Type 0 where
  pub held : T (fits f r)
  pub number_is : T (finite r)
  pub below : (y : Float) → T (fits f y) → T (finite y) → Less (number r) (number y)
      → HalfAbove (number r ⊕ number y) (number x)
  pub above : (y : Float) → T (fits f y) → T (finite y) → Less (number y) (number r)
      → HalfBelow (number r ⊕ number y) (number x)
