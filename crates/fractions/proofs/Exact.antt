-- Where rounding changes nothing. A fraction that the format holds (`Holds`: in units of the smallest value it is on
-- the format's grid) is what its `Result` is, as a number (`result_exact`); ExactInFormat.antt shows of which fractions
-- that is so. And rounding keeps the sign: what is not below 0 does not fall below it (`result_not_below`). Assumes
-- nothing.
use Rattle.std.specs.Prelude.{◌≡◌, ◌+◌, ◌*◌, ◌-◌, ◌^◌, ◌≤◌, ◌<◌}
use Rattle.lists.specs.Prelude.{refl, sym, ap, ◌∙◌, subst, Bool, true, false, cond, ℕ, suc, zero-le, le_trans, le_of_eq}
use Rattle.lists.specs.Prelude.{lt_of_lt_of_le, sub-add_cancel, sub-le, mul_assoc, zero-mul, le_of_mul-le-mul_right}
use Rattle.lists.specs.Prelude.{arith, ltb, pow-add, pow_pos, pow_mono, shl_lt, Float, nan, inf, fin, Format, prec}
use Rattle.lists.specs.Prelude.{emax, low, up, odd, round}
use lib.Ieee.{units as written}
use lib.Ieee.Fits.{reach, round_is}
use lib.Ieee.Exact.{HasValue, odd_sign, round_exact}
use Rattle.lists.proofs.Tests.{cond_cases}
use Rattle.formats.proofs.Grid.{Grid}
use Rattle.fractions.specs.Fraction.{Fraction, signed, number, Same, gap}
use Rattle.fractions.proofs.Order.{same_trans}
use Rattle.fractions.proofs.Number.{value_same, value_number}
use Rattle.fractions.proofs.Rounding.{Difference, Result, difference_same, difference_gap}

-- |q| is so many of the format's smallest values, a number that the format has
pub record Holds (f : Format) (q : Fraction) : Type 0 where
  pub units : ℕ
  pub grid : Grid f units
  pub is : gap q.plus q.minus * 2 ^ low f ≡ units * q.over

-- nothing is rounded away, and the sign is the one that was handed over
result_value : (f : Format) {z : Float} {q : Fraction} → 0 < q.over → Holds f q → (r : Result f z q)
    → HasValue z r.sign r.size q.over
result_value f {z} {q} D h r = rw r.is
    (round_exact f r.sign r.size q.over h.grid.c h.grid.i D h.grid.fit
    (rw (← h.grid.is) h.grid.room)
    (ap (λ (n : ℕ). n * 2 ^ low f) (sym (difference_gap r.sign r.size q r.difference)) ∙ h.is
    ∙ ap (λ (n : ℕ). n * q.over) h.grid.is))

pub result_number : (f : Format) {z : Float} {q : Fraction} → 0 < q.over → Holds f q → Result f z q
    → 0 < (number z).over
result_number f {z} {q} D h r = value_number z r.sign r.size q.over (result_value f D h r)

pub result_exact : (f : Format) {z : Float} {q : Fraction} → 0 < q.over → Holds f q → Result f z q → Same (number z) q
result_exact f {z} {q} D h r =
    same_trans (number z) (signed r.sign r.size q.over) q D
    (value_same z r.sign r.size q.over (result_value f D h r))
    (difference_same r.sign r.size q r.difference)

-- ---- the whole numbers of the format's digits are below its overflow
pub digits_below : (f : Format) → 2 ^ (prec f + low f) ≤ 2 ^ (low f + suc (emax f))
digits_below f = pow_mono (omega (arith, reach f))

-- ---- a literal ±n / 2 ^ j
pub literal_held : (f : Format) (s : Bool) (n j : ℕ) → n < 2 ^ prec f → j ≤ low f
    → HasValue (round f s n (2 ^ j)) s n (2 ^ j)
literal_held f s n j h l =
    let i = low f - j in
    round_exact f s n (2 ^ j) n i (pow_pos j) h
    (lt_of_lt_of_le (shl_lt (prec f) i h)
    (le_trans (pow_mono (omega (arith, sub-le (low f) j))) (digits_below f)))
    (ap (λ (k : ℕ). n * k) (ap (λ (k : ℕ). 2 ^ k) (sym (sub-add_cancel l)) ∙ pow-add 2 i j)
    ∙ sym (mul_assoc n (2 ^ i) (2 ^ j)))

-- ---- the sign
units_plus : (f : Format) (q k : ℕ) → (number (written f false q k)).minus ≡ 0
unfolding written
units_plus f q k =
    cond_cases (λ (x : Float). (number x).minus ≡ 0) (ltb (q * 2 ^ k) (2 ^ (low f + suc (emax f))))
    (value (odd (suc (prec f)) false q k (low f)) (q * 2 ^ k) (2 ^ low f) (odd_sign (suc (prec f)) false q k (low f)))
    refl
  where
    value : (x : Float) (a c : ℕ) → HasValue x false a c → (number x).minus ≡ 0
    value nan a c h = absurd h
    value (inf t) a c h = absurd h
    value (fin t m e) a c h = ap (λ (s : Bool). cond s (m * up e) 0) h.0

round_not_below : (s : Bool) (f : Format) (k : ℕ) (q : Fraction) → 0 < q.over → Difference s k q → q.minus ≤ q.plus
    → (number (round f s k q.over)).minus ≤ (number (round f s k q.over)).plus
round_not_below false f k q D e h =
    le_trans (le_of_eq (ap (λ (x : Float). (number x).minus) (round_is f false k q.over) ∙ units_plus f _ _)) zero-le
round_not_below true f k q D e h = subst
    (λ (n : ℕ). (number (round f true n q.over)).minus ≤ (number (round f true n q.over)).plus)
    (sym (omega arith)) zero
  where
    zero : (number (round f true 0 q.over)).minus ≤ (number (round f true 0 q.over)).plus
    zero =
        let x = round f true 0 q.over in
        le_of_mul-le-mul_right
        (omega (
          arith,
          value_same x true 0 q.over
              (round_exact f true 0 q.over 0 0 D (pow_pos (prec f)) (pow_pos (low f + suc (emax f)))
              (zero-mul (2 ^ low f) ∙ sym (zero-mul q.over))),
        )) D

pub result_not_below : (f : Format) {z : Float} {q : Fraction} → 0 < q.over → Result f z q → q.minus ≤ q.plus
    → (number z).minus ≤ (number z).plus
result_not_below f {z} {q} D r h = rw r.is (round_not_below r.sign f r.size q D r.difference h)
