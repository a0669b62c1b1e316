-- Signed fractions of whole numbers, and what a float is as one. Definitions only. A fraction is no more than its three
-- numbers: it need not be in lowest terms, and two fractions that are the same number are `Same`, not equal. One whose
-- `over` is 0 is no number: that is how a NaN and an infinity are told.
use Rattle.std.specs.Prelude.{◌+◌, ◌-◌, ◌*◌, ◌^◌, ◌≤◌, ◌<◌, ◌≡◌}
use Rattle.lists.specs.Prelude.{ℕ, Bool, cond, List, ltb, Float, nan, inf, fin, up, down}
use Rattle.lists.specs.Pairwise.{Pairwise}

-- (plus - minus) / over
pub record Fraction : Type 0 where
  pub plus : ℕ
  pub minus : ℕ
  pub over : ℕ

abbrev pub fraction : ℕ → ℕ → ℕ → Fraction
fraction p m o = record { plus = p; minus = m; over = o }

abbrev pub whole : ℕ → Fraction
whole n = fraction n 0 1

-- 2 ^ -k
abbrev pub unit : ℕ → Fraction
unit k = fraction 1 0 (2 ^ k)

-- a / c, with the sign: negative where it is true
abbrev pub signed : Bool → ℕ → ℕ → Fraction
signed s a c = fraction (cond s 0 a) (cond s a 0) c

-- a float as a fraction
abbrev pub number : Float → Fraction
number nan = fraction 0 0 0
number (inf s) = fraction 0 0 0
number (fin s m e) = signed s (m * up e) (down e)

-- ---- arithmetic

infixl 70 ◌⊕◌ ◌⊖◌
infixl 75 ◌⊗◌ ◌⊘◌
abbrev pub ◌⊕◌ : Fraction → Fraction → Fraction
x ⊕ y = fraction (x.plus * y.over + y.plus * x.over) (x.minus * y.over + y.minus * x.over) (x.over * y.over)

abbrev pub opposite : Fraction → Fraction
opposite x = fraction x.minus x.plus x.over

abbrev pub ◌⊖◌ : Fraction → Fraction → Fraction
x ⊖ y = x ⊕ opposite y

abbrev pub ◌⊗◌ : Fraction → Fraction → Fraction
x ⊗ y = fraction (x.plus * y.plus + x.minus * y.minus) (x.plus * y.minus + x.minus * y.plus) (x.over * y.over)

abbrev pub square : Fraction → Fraction
square x = x ⊗ x

-- x / y, for a y above 0; by any other y it is no number
abbrev pub ◌⊘◌ : Fraction → Fraction → Fraction
x ⊘ y = fraction (x.plus * y.over) (x.minus * y.over) (x.over * (y.plus - y.minus))

-- |a - b| of whole numbers: one of the two differences is 0
abbrev pub gap : ℕ → ℕ → ℕ
gap a b = a - b + (b - a)

-- |x|
abbrev pub magnitude : Fraction → Fraction
magnitude x = fraction (gap x.plus x.minus) 0 x.over

-- ---- comparing: both sides multiplied out, so that no difference is taken

abbrev pub Same : Fraction → Fraction → Type 0
Same x y = x.plus * y.over + y.minus * x.over ≡ y.plus * x.over + x.minus * y.over

abbrev pub Less : Fraction → Fraction → Type 0
Less x y = x.plus * y.over + y.minus * x.over < y.plus * x.over + x.minus * y.over

-- the same as a test, for a definition that goes by cases
abbrev pub is_less : Fraction → Fraction → Bool
is_less x y = ltb (x.plus * y.over + y.minus * x.over) (y.plus * x.over + x.minus * y.over)

abbrev pub AtMost : Fraction → Fraction → Type 0
AtMost x y = x.plus * y.over + y.minus * x.over ≤ y.plus * x.over + x.minus * y.over

-- |x - y|, as a whole number of 1 / (x.over * y.over)
abbrev pub apart : Fraction → Fraction → ℕ
apart x y = gap (x.plus * y.over + y.minus * x.over) (y.plus * x.over + x.minus * y.over)

-- |x - y| is at most |x - z|
abbrev pub AsNear : Fraction → Fraction → Fraction → Type 0
AsNear x y z = apart x y * z.over ≤ apart x z * y.over

-- |x - y| ≤ 2 ^ -k, both being numbers
pub record Within (k : ℕ) (x y : Fraction) : Type 0 where
  pub first : 0 < x.over
  pub second : 0 < y.over
  pub near : apart x y * 2 ^ k ≤ x.over * y.over

-- of a row of floats, as the gains of document 01: as many as there are numbers, each within 2 ^ -k of the number in
-- its place
abbrev pub EachWithin : ℕ → List Float → List Fraction → Type 0
EachWithin k = Pairwise (λ x q. Within k (number x) q)
