-- Document 01, 'Conversions and roots': "f32 to f64 is exact. f64 to f32 takes the nearest, ties to the even one, with
-- subnormals; too large gives infinity; the sign is kept, of zero too; a NaN gives a NaN." Definitions only. Subnormals
-- need no word of their own: they are values of the format like any other.
use Rattle.std.specs.Prelude.{◌≡◌, ◌&&◌, ◌||◌, ◌+◌, ◌-◌, ◌*◌, ◌%◌, ◌^◌, ◌≢◌}
use Rattle.lists.specs.Prelude.{Bool, true, false, ℕ, suc, T, leb, Float, nan, inf, fin, Format, binary64, prec, emax}
use Rattle.lists.specs.Prelude.{fits, is_nan, to_bits}
use Rattle.std.specs.Float.Ieee.Scale.{finite}
use Rattle.fractions.specs.Fraction.{number, AsNear}

-- ---- f32 to f64: the same value, which the wider format holds
pub record Widens (x r : Float) : Type 0 where
  pub bits : r ≡ x
  pub words : T (fits binary64 r)

-- ---- to a format f
abbrev pub infinite : Float → Bool
infinite nan = false
infinite (inf s) = true
infinite (fin s m e) = false

abbrev pub negative : Float → Bool
negative nan = false
negative (inf s) = s
negative (fin s m e) = s

-- the largest number of the format, and the power of two that would come after it
abbrev pub largest : Format → ℕ
largest f = (2 ^ prec f - 1) * 2 ^ (suc (emax f) - prec f)

abbrev pub beyond : Format → ℕ
beyond f = 2 ^ suc (emax f)

-- |x| is no nearer to the largest number than to the one beyond, which is the even one of the two. Of `plus` and
-- `minus` of a float one is 0, so that their sum is the magnitude.
unfoldable pub too_large_of : Format → Float → Bool
too_large_of f x = leb ((largest f + beyond f) * (number x).over) (2 * ((number x).plus + (number x).minus))

pub record Narrows (f : Format) (x r : Float) : Type 0 where
  pub held : T (fits f r)
  pub not_a_number : is_nan r ≡ is_nan x
  pub sign : negative r ≡ negative x
  pub large : infinite r ≡ (infinite x || (finite x && too_large_of f x))
  pub nearest : (y : Float) → T (finite x) → T (finite r) → T (fits f y) → T (finite y)
      → AsNear (number x) (number r) (number y)
  pub even : (y : Float) → T (finite x) → T (finite r) → T (fits f y) → T (finite y)
      → AsNear (number x) (number y) (number r) → (y ≢ r) → to_bits f r % 2 ≡ 0
