-- Controls on the definitions of specs/, and on `Rounds` and `RootOf`, at closed numbers: what they say and what they
-- do not, at the edge and past it. A definition that is wrong here would say the wrong thing everywhere. Assumes
-- nothing.
use Rattle.std.specs.Prelude.{◌≡◌, ◌∷◌, ◌^◌, ◌<◌}
use Rattle.lists.specs.Prelude.{refl, inl, inr, ⊎_elim, false, true, [], ℕ, lt_irrefl, le→leb, lit<, lit≤, pos, negsuc}
use Rattle.lists.specs.Prelude.{nan, inf, fin, binary64}
use Rattle.fractions.specs.Fraction.{Fraction, fraction, whole, unit, number, opposite, magnitude, square, ◌⊕◌}
use Rattle.fractions.specs.Fraction.{◌⊖◌, ◌⊗◌, ◌⊘◌, Same, Less, AtMost, Within}
use Rattle.fractions.proofs.Rounding.{Rounds}
use Rattle.fractions.specs.Squares.{sum_squares, magnitude_above, magnitude_below, BySquares}
use Rattle.fractions.proofs.Roots.{RootOf}
use Rattle.fractions.proofs.Approximates.{Approximates}
use Rattle.fractions.proofs.Within.{within_computed}

-- ---- numbers: -1.5 is -3 / 2, and a NaN and an infinity are near nothing
minus_one_and_a_half : number (fin true 3 (negsuc 0)) ≡ fraction 0 3 2
minus_one_and_a_half = refl

nan_near_nothing : (k : ℕ) (y : Fraction) → Within k (number nan) y → ⊥
nan_near_nothing k y h = lt_irrefl 0 h.first

infinity_near_nothing : (k : ℕ) (y : Fraction) → Within k (number (inf false)) y → ⊥
infinity_near_nothing k y h = lt_irrefl 0 h.first

-- ---- arithmetic: 1/2 + 1/3, 1/2 - 1/3, (-1/2) (2/3), (-1/2) (-2/3), (1/2) / (2/3), |-3/2|; and what is divided by -1
-- is no number
arithmetic : Same (fraction 1 0 2 ⊕ fraction 1 0 3) (fraction 5 0 6)
    × Same (fraction 1 0 2 ⊖ fraction 1 0 3) (fraction 1 0 6)
    × Same (fraction 0 1 2 ⊗ fraction 2 0 3) (fraction 0 1 3)
    × Same (fraction 0 1 2 ⊗ fraction 0 2 3) (fraction 1 0 3) × Same (fraction 1 0 2 ⊘ fraction 2 0 3) (fraction 3 0 4)
    × Same (magnitude (fraction 0 3 2)) (fraction 3 0 2) × ((whole 1 ⊘ fraction 0 1 1).over ≡ 0)
arithmetic = (refl, refl, refl, refl, refl, refl, refl)

-- -1/2 < 1/3, 1/3 ≤ 2/6, and not 1/3 < 2/6
order : Less (fraction 0 1 2) (fraction 1 0 3) × AtMost (fraction 1 0 3) (fraction 2 0 6)
order = (lit< tt, lit≤ tt)

order_not : Less (fraction 1 0 3) (fraction 2 0 6) → ⊥
order_not h = le→leb _ _ h

-- ---- within 2 ^ -34: at the edge above and below, and not one bit past it
edge_above : Within 34 (whole 1) (whole 1 ⊕ unit 34)
edge_above = within_computed 34 _ _ tt

edge_below : Within 34 (whole 1) (whole 1 ⊖ unit 34)
edge_below = within_computed 34 _ _ tt

past_above : Within 34 (whole 1) (whole 1 ⊕ unit 33) → ⊥
past_above h = le→leb _ _ h.near

past_below : Within 34 (whole 1) (whole 1 ⊖ unit 33) → ⊥
past_below h = le→leb _ _ h.near

-- ---- rounding: 1 + 2 ^ -53 is a tie and may be moved by 2 ^ -53, to 1; not to 1 + 2 ^ -51
tie : Rounds binary64 (whole 1) (whole 1 ⊕ unit 53)
tie = record { first = lit< tt; second = lit< tt; near = inl (lit≤ tt) }

too_far : Rounds binary64 (whole 1 ⊕ unit 51) (whole 1 ⊕ unit 53) → ⊥
too_far h = ⊎_elim (le→leb _ _) (le→leb _ _) h.near

-- half the smallest value is a tie between it and 0; one and a half of it does not round to 0
smallest : Rounds binary64 (whole 0) (unit 1075)
smallest = record { first = lit< tt; second = lit< tt; near = inr (lit≤ tt) }

not_to_zero : Rounds binary64 (whole 0) (fraction 3 0 (2 ^ 1075)) → ⊥
not_to_zero h = ⊎_elim (le→leb _ _) (le→leb _ _) h.near

-- ---- a number of -2 is not 1 in magnitude at most
too_large : Approximates 40 (whole 1) (fin true 1 (pos 1)) (fraction 0 2 1) → ⊥
too_large h = le→leb _ _ h.size

-- ---- by squares, of 1 / √4, at it, at the edges and past them; and of -1 / √4, which has the other sign
closed : {k : ℕ} {x G S : Fraction}
    → (0 < x.over) × (0 < G.over) × (0 < S.over) × Less (whole 0) S
    × AtMost (square G ⊘ S) (square (magnitude_above k x))
    × AtMost (square (magnitude_below k x)) (square G ⊘ S)
    → (Less (square (unit k)) (square G ⊘ S) → Less (whole 0) (x ⊗ G)) → BySquares k x G S
closed (gain, formula, sum, positive, above, below) sign = record {
  gain = gain;
  formula = formula;
  sum = sum;
  positive = positive;
  above = above;
  below = below;
  sign = sign;
}

half_squares : BySquares 30 (fraction 1 0 2) (whole 1) (whole 4)
half_squares = closed (lit< tt, lit< tt, lit< tt, lit< tt, lit≤ tt, lit≤ tt) (λ h. lit< tt)

half_edge : BySquares 30 (fraction 1 0 2 ⊕ unit 30) (whole 1) (whole 4)
half_edge = closed (lit< tt, lit< tt, lit< tt, lit< tt, lit≤ tt, lit≤ tt) (λ h. lit< tt)

half_edge_below : BySquares 30 (fraction 1 0 2 ⊖ unit 30) (whole 1) (whole 4)
half_edge_below = closed (lit< tt, lit< tt, lit< tt, lit< tt, lit≤ tt, lit≤ tt) (λ h. lit< tt)

half_past : BySquares 30 (fraction 1 0 2 ⊕ unit 29) (whole 1) (whole 4) → ⊥
half_past h = le→leb _ _ h.below

half_short : BySquares 30 (fraction 1 0 2 ⊖ unit 29) (whole 1) (whole 4) → ⊥
half_short h = le→leb _ _ h.above

other_sign : BySquares 30 (fraction 0 1 2) (whole 1) (whole 4) → ⊥
other_sign h = le→leb _ _ (h.sign (lit< tt))

minus_half : BySquares 30 (fraction 0 1 2) (opposite (whole 1)) (whole 4)
minus_half = closed (lit< tt, lit< tt, lit< tt, lit< tt, lit≤ tt, lit≤ tt) (λ h. lit< tt)

-- a silent speaker: what is less than 0 counts as 0
silent : BySquares 30 (whole 0) (whole 0) (whole 1)
silent = closed (lit< tt, lit< tt, lit< tt, lit< tt, lit≤ tt, lit≤ tt) (λ h. absurd (le→leb _ _ h))

-- where the exact gain is 2 ^ -30 at most, a 0 or a value of the other sign will do
small_zero : BySquares 30 (whole 0) (unit 30) (whole 1)
small_zero = closed (lit< tt, lit< tt, lit< tt, lit< tt, lit≤ tt, lit≤ tt) (λ h. absurd (le→leb _ _ h))

small_sign : BySquares 30 (opposite (unit 31)) (unit 30) (whole 1)
small_sign = closed (lit< tt, lit< tt, lit< tt, lit< tt, lit≤ tt, lit≤ tt) (λ h. absurd (le→leb _ _ h))

-- 3 ² + 4 ² is 5 ², and 5 is its root to one part in 8; 6 is not
squares : Same (sum_squares (whole 3 ∷ fraction 0 4 1 ∷ [])) (square (whole 5))
squares = refl

root : RootOf 8 (whole 5) (whole 25)
root = record { root = lit< tt; number = lit< tt; positive = lit< tt; below = lit< tt; above = lit< tt }

no_root : RootOf 8 (whole 6) (whole 25) → ⊥
no_root h = le→leb _ _ h.below
