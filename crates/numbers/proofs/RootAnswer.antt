-- The answer to the root of a float: a positive number, as a count is, is accepted, and the value is `root_of` of it,
-- also where it is refused. Assumes nothing.
use Rattle.std.specs.Prelude.{◌≡◌, ◌+◌, ◌*◌, ◌^◌, ◌<◌, Result, IsOk}
use Rattle.lists.specs.Prelude.{refl, true, false, ℕ, zero, suc, zero-le, arith, pow_mono, lt_of_lt_of_le}
use Rattle.lists.specs.Prelude.{lit≤, mul-pos, T, Float, nan, inf, fin, pos, binary64, of_int, prec}
use lib.Ieee.Positive.{positive}
use Rattle.refusals.specs.declared.Refusal.{Refusal}
use Rattle.refusals.specs.Numbers.{told}
use Rattle.refusals.proofs.Numbers.{accepted_ok}
use Rattle.formats.specs.Floats.{zero_float, float}
use Rattle.fractions.specs.Fraction.{number}
use Rattle.fractions.proofs.Exact.{literal_held}
use Rattle.fractions.proofs.Number.{value_same, value_number}
use Rattle.fractions.proofs.Operations.{number_positive}
use Rattle.numbers.specs.Computed.{root_of, refusal_of, root_answer}
use Rattle.numbers.specs.Promise.{RootPromise}

pub root_accepted : (x : Float) → T (positive x) → refusal_of x ≡ 0
root_accepted nan p = absurd p
root_accepted (inf s) p = absurd p
root_accepted (fin true m e) p = absurd p
root_accepted (fin false zero e) p = refl
root_accepted (fin false (suc m) e) p = refl

pub root_value : (x : Float) → (root_answer x).value ≡ root_of binary64 x
unfolding root_of
root_value nan = refl
root_value (inf s) = refl
root_value (fin s zero e) = refl
root_value (fin true (suc m) e) = refl
root_value (fin false (suc m) e) = refl

-- a count above 0, as a float
above_zero : (p m o n : ℕ) → 0 < n → 0 < o → p * 1 + 0 * o ≡ n * o + m * 1 → m < p
above_zero p m o n h l e = let k : 0 < n * o = mul-pos h l in omega arith

pub float_positive : (n : ℕ) → 0 < n → n < 2 ^ 32 → T (positive (float (pos n)))
unfolding of_int
float_positive n h l =
    let x = float (pos n) in
    let few = lt_of_lt_of_le l (pow_mono {i = 32} {j = prec binary64} (lit≤ tt)) in
    let held = literal_held binary64 false n 0 few zero-le in
    number_positive x
    (above_zero (number x).plus (number x).minus (number x).over n h (value_number x false n 1 held)
    (value_same x false n 1 held))

-- so it has a root
pub counted_root : (n : ℕ) (r : Result Float Refusal) → 0 < n → n < 2 ^ 32
    → RootPromise (float (pos n)) (told zero_float r) → IsOk r
counted_root n r h l p = accepted_ok r (p.words.nearest (float_positive n h l)).0
