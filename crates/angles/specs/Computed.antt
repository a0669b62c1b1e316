-- What the program computes, step by step, in whole numbers: angles in units of 2 ^ -52 degree, all else in units of 2
-- ^ -60, and the last step in floats. Nobody has to believe it: specs/Promise.antt ties the results to the defined
-- values. Definitions only.
use Rattle.std.specs.Prelude.{◌+◌, ◌-◌, ◌*◌, ◌/◌, ◌%◌, ◌^◌, ◌&&◌}
use Rattle.lists.specs.Prelude.{ℕ, zero, suc, Bool, false, not, cond, eqb, leb, ltb, pos, Float, nan, inf, fin}
use Rattle.lists.specs.Prelude.{binary64, unlike, up, down, lt, neg, div, of_int}
use Rattle.fractions.specs.Fraction.{Fraction, fraction, signed, gap}
use Rattle.series.specs.Sums.{Wave, sine, cosine}
use Rattle.series.specs.Angles.{turned}
use Rattle.formats.specs.Floats.{zero_float}
use Rattle.angles.specs.Limits.{limit, is_inside}

abbrev pub one : ℕ
one = 2 ^ 60

abbrev pub turn : ℕ
turn = 360 * 2 ^ 52

abbrev pub half : ℕ
half = 180 * 2 ^ 52

-- a degree in radians, by document 01's digits of pi, in units of 2 ^ -68, cut
abbrev pub degree_units : ℕ
degree_units = 5151302725743731798

-- ---- the angle

-- from 0 up to the limit, of which units can be counted
unfoldable pub is_upright : Float → Bool
is_upright d = not (lt d zero_float) && is_inside limit d

unfoldable pub units : Float → ℕ
units nan = 0
units (inf s) = 0
units (fin s m e) = m * up e * 2 ^ 52 / down e

-- the angle, cut
unfoldable pub cut_angle : Float → Fraction
cut_angle nan = fraction 0 0 1
cut_angle (inf s) = fraction 0 0 1
cut_angle (fin s m e) = signed s (units (fin s m e)) (2 ^ 52)

unfoldable pub place : Float → ℕ
place d = turned (cut_angle d)

-- the shorter way from 0
unfoldable pub short : ℕ → ℕ
short a = cond (leb a half) a (turn - a)

-- ---- the sums, nested

unfoldable pub times : ℕ → ℕ → ℕ
times a b = a * b / one

unfoldable pub radian_units : ℕ → ℕ
radian_units r = times r degree_units

unfoldable pub nesting : ℕ → ℕ → ℕ → ℕ
nesting y f j = times y f / ((j + 1) * (j + 2))

unfoldable pub nest : ℕ → ℕ → ℕ → ℕ
nest y j zero = one
nest y j (suc n) = one - nesting y (nest y (j + 2) n) j

-- the outermost nesting at x radians, of the sine (top 25) or the cosine (top 26): 1 less it is the sum's bracket
abbrev pub outermost : ℕ → ℕ → ℕ
outermost x top = let y = times x x in nesting y (nest y (top % 2 + 2) (top / 2)) (top % 2)

-- how far from 1, either way
abbrev pub from_one : ℕ → ℕ
from_one g = gap one g

-- ---- the result

-- rounded to units of 2 ^ -51, as a float: 0 has no sign
unfoldable pub rounded_units : Bool → ℕ → Float
rounded_units negative size =
    let n = (size + 256) / 512 in
    let v = div binary64 (of_int binary64 (pos n)) (fin false 1 (pos 51)) in
    cond negative (cond (eqb n 0) v (neg v)) v

unfoldable pub sine_at : ℕ → Float
sine_at a =
    let x = radian_units (short a) in
    let g = outermost x 25 in
    rounded_units (unlike (ltb half a) (ltb one g)) (times x (from_one g))

unfoldable pub cosine_at : ℕ → Float
cosine_at a =
    let x = radian_units (short a) in
    let g = outermost x 26 in
    rounded_units (ltb one g) (from_one g)

abbrev pub wave_at : Wave → ℕ → Float
wave_at sine a = sine_at a
wave_at cosine a = cosine_at a

unfoldable pub wave_computed : Wave → Float → Float
wave_computed w d = wave_at w (place d)
