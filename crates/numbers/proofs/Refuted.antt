-- Wrong ways to convert, to take a root and to take the inverse of one, each held against document 01's words at a
-- number where it breaks them. Assumes nothing.
use Rattle.std.specs.Prelude.{◌<◌, ◌≡◌}
use Rattle.lists.specs.Prelude.{ℕ, arith, ⊎_elim, refl, ap, ◌∙◌, true, false, not, true≢false, false≢true, le→leb, lit≤}
use Rattle.lists.specs.Prelude.{pos, negsuc, Float, nan, inf, fin, binary32, binary64, fits, is_nan, to_bits}
use lib.Ieee.Positive.{num}
use lib.Ieee.Scale.{finite}
use Rattle.formats.specs.Floats.{zero_float, one_float}
use Rattle.numbers.specs.Conversions.{Narrows, negative, too_large_of}
use Rattle.numbers.specs.Roots.{NearestRoot}
use Rattle.numbers.specs.Promise.{RootPromise}
use Rattle.numbers.specs.Normalization.{InverseRoot}
use Rattle.numbers.specs.Normalization.{Inverse}
use Rattle.numbers.proofs.Normalization.{inverse_accepted}

-- ---- narrowing

-- of two as near the odd one is taken: 1 + 2 ^ -24 lies in the middle between 1 and 1 + 2 ^ -23
tie_to_the_odd : Narrows binary32 (fin false 16777217 (negsuc 23)) (fin false 8388609 (negsuc 22)) → ⊥
unfolding to_bits fits
tie_to_the_odd p = let e : ◌≡◌ {A = ℕ} 1 0 = p.even one_float tt tt tt tt (lit≤ tt)
    (λ h. (let z : ◌≡◌ {A = ℕ} 1 8388609 = ap num h in omega arith)) in omega arith

-- the largest number is taken for one that is too large
largest_as_infinity : Narrows binary32 (fin false 16777215 (pos 104)) (inf false) → ⊥
unfolding too_large_of
largest_as_infinity p = true≢false p.large

-- what is too large gives a NaN
too_large_as_nan : Narrows binary32 (fin false 1 (pos 128)) nan → ⊥
unfolding is_nan
too_large_as_nan p = true≢false p.not_a_number

-- ---- the root

-- -0.0 is taken for a number below zero
minus_zero_refused : RootPromise (fin true 0 (pos 0)) (record { refusal = 10; value = zero_float }) → ⊥
minus_zero_refused p = let e : ◌≡◌ {A = ℕ} 10 0 = (p.words.kept true refl).0 in omega arith

-- the root of -0.0 loses its sign
minus_zero_turned : RootPromise (fin true 0 (pos 0)) (record { refusal = 0; value = zero_float }) → ⊥
minus_zero_turned p = false≢true (ap negative (p.words.kept true refl).1)

-- a root is rounded up: that of 2 would be 3FF6A09E667F3BCE, and 3FF6A09E667F3BCD is nearer
rounded_up : NearestRoot binary64 (fin false 1 (pos 1)) (fin false 3184525836262887 (negsuc 50)) → ⊥
unfolding fits
rounded_up p =
    ⊎_elim (λ h. le→leb _ _ h) (λ h. le→leb _ _ h) (p.above (fin false 6369051672525773 (negsuc 51)) tt tt (lit≤ tt))

-- a refusal keeps what it was given: the value of a refused -1.0 is 0.0
refused_value_kept : RootPromise (fin true 1 (pos 0)) (record { refusal = 10; value = fin true 1 (pos 0) }) → ⊥
refused_value_kept p = true≢false (ap negative (p.words.refused tt).1)

-- ---- the inverse of a root: of 0 it is refused, and is no infinity; of any other number it is not
abbrev inverse : ℕ → Float → Inverse
inverse n x = record { refusal = n; value = x }

zero_accepted : (x : Float) → InverseRoot 0 (inverse 0 x) → ⊥
zero_accepted x p = let e : ◌≡◌ {A = ℕ} 0 2 = ap (λ (r : Inverse). r.refusal) p.bits in omega arith

infinity_beside_the_refusal : InverseRoot 0 (inverse 2 (inf false)) → ⊥
infinity_beside_the_refusal p = true≢false (ap (λ (r : Inverse). not (finite r.value)) p.bits)

other_refused : (n : ℕ) (x : Float) → 0 < n → InverseRoot n (inverse 2 x) → ⊥
other_refused n x h p = let e : ◌≡◌ {A = ℕ} 2 0 = ap (λ (r : Inverse). r.refusal)
    (p.bits ∙ inverse_accepted n (λ z. omega arith)) in omega arith
