-- The float ends of the program: which floats are from -1080 to 1080, that such an angle times 2 ^ 52 is exact, so that
-- its units are what they should be, and that the result is the float of its number of units of 2 ^ -51. Assumes
-- nothing.
use Rattle.std.specs.Prelude.{◌≡◌, ◌+◌, ◌-◌, ◌*◌, ◌/◌, ◌%◌, ◌^◌, ◌≤◌, ◌<◌}
use Rattle.lists.specs.Prelude.{refl, sym, ap, ◌∙◌, subst, ℕ, zero-add, mod-lt, add-mod_right, zero-div, lt_of_lt_of_le}
use Rattle.lists.specs.Prelude.{lt_irrefl, mul_comm, mul-one, mul_left_comm, div-lt_iff_lt-mul, mul-pos}
use Rattle.lists.specs.Prelude.{eq_of_mul-eq-mul_right, div-eq_of_lt, arith, Bool, true, false, not, cond, true≢false}
use Rattle.lists.specs.Prelude.{false≢true, T, eqb, lit<, lit≤, ltb→lt, nltb→le, lt→ltb, eqb→eq, ℤ, pos, pow_pos, Float}
use Rattle.lists.specs.Prelude.{nan, inf, fin, binary64, up, down, lt, le, eq, neg, mul, div, round, of_int}
use Rattle.lists.specs.Prelude.{to_unsigned, fits, ltb-false}
use lib.Ieee.Fits.{and_l, and_r, and_i, down_pos}
use lib.Ieee.Exact.{HasValue}
use lib.Ieee.Nearest.{div_same}
use lib.Ieee.Back.{round_whole}
use lib.Ieee.Scale.{round_same}
use lib.Arith.{le→nltb}
use Rattle.refusals.proofs.First.{passed}
use Rattle.lists.proofs.Tests.{cond_false}
use Rattle.fractions.specs.Fraction.{Fraction, fraction, whole, magnitude, signed, number, ◌⊗◌, Same, AtMost}
use Rattle.fractions.proofs.Order.{same_refl, same_trans}
use Rattle.fractions.proofs.Number.{number_neg, value_same, value_number}
use Rattle.fractions.proofs.Close.{Close, Size, size_wider, close_same, close_opposite}
use Rattle.fractions.proofs.Rounding.{Result}
use Rattle.fractions.proofs.Operations.{mul_result}
use Rattle.fractions.proofs.Exact.{Holds, result_number, result_exact, literal_held}
use Rattle.fractions.proofs.ExactInFormat.{float_held, power_held}
use Rattle.formats.specs.Floats.{zero_float}
use Rattle.series.specs.Angles as Defined
use Rattle.angles.specs.Computed.{one, turn, is_upright, units, cut_angle, place, rounded_units}
use Rattle.angles.specs.Limits.{limit, is_inside}
use Rattle.angles.specs.Promise.{is_refused, refusal_of}
use Rattle.angles.proofs.Limits.{inside_size, size_accepted, accepted_inside}
use Rattle.angles.proofs.Limits as Limits

-- ---- which floats are inside: those of a number of 1080 at most in size

inside_most : (s : Bool) (m : ℕ) (e : ℤ) → T (is_inside limit (fin s m e)) → m * up e ≤ 1080 * down e
unfolding of_int
inside_most s m e t = go s (inside_size limit (fin s m e) (lit< tt) t)
  where
    go : (s : Bool) → AtMost (magnitude (signed s (m * up e) (down e))) (whole 1080) → m * up e ≤ 1080 * down e
    go true h = omega arith
    go false h = omega arith

-- an angle of 1080 at most in size is accepted
pub accepted : (d : Float) → 0 < (number d).over → AtMost (magnitude (number d)) (whole 1080) → refusal_of d ≡ 0
unfolding of_int
accepted d h k = cond_false 3 0 (size_accepted limit d (lit< tt) h k)

pub accepted_is : (d : Float) → refusal_of d ≡ 0 → is_refused d ≡ false
accepted_is d h = (passed (is_refused d) 2 0 h).0

pub accepted_number : (d : Float) → refusal_of d ≡ 0 → 0 < (number d).over
accepted_number d h = Limits.accepted_number limit d (accepted_is d h)

-- ---- cut to a whole number

pub record Cut (z : Float) (n : ℕ) : Type 0 where
  pub above : T (lt (fin true 1 (pos 0)) z)
  pub under : T (lt z (fin false 1 (pos 64)))
  pub is : to_unsigned 64 z ≡ n

-- a float that is num / den, not below 0
cut_number : (z : Float) (num den : ℕ) → 0 < (number z).over → 0 < den → num < 2 ^ 64 * den
    → Same (number z) (fraction num 0 den) → Cut z (num / den)
unfolding lt to_unsigned
cut_number nan num den Z D h v = absurd (lt_irrefl 0 Z)
cut_number (inf s) num den Z D h v = absurd (lt_irrefl 0 Z)
cut_number (fin false m e) num den Z D h v =
    let n : num / den < 2 ^ 64 = (div-lt_iff_lt-mul D).1 h in
    let d : m * up e / down e ≡ num / den = div_same (m * up e) (down e) num den (down_pos e) D (omega arith) in
    let u : m * up e < 2 ^ 64 * down e = (div-lt_iff_lt-mul (down_pos e)).0 (subst (λ (x : ℕ). x < 2 ^ 64) (sym d) n) in
    record {
      above = lt→ltb 0 (1 * down e + m * up e * 1) (omega (arith, down_pos e));
      under = lt→ltb (m * up e * 1) (2 ^ 64 * down e)
          (subst (λ (x : ℕ). x < 2 ^ 64 * down e) (sym (mul-one (m * up e))) u);
      is = omega arith;
    }
cut_number (fin true m e) num den Z D h v =
    let z : m * up e ≡ 0 = eq_of_mul-eq-mul_right den D (m * up e) 0
    (omega arith) in
    let n : num ≡ 0 = eq_of_mul-eq-mul_right (down e) (down_pos e) num 0
    (omega arith) in
    record {
      above = lt→ltb (m * up e * 1) (1 * down e) (omega (arith, down_pos e));
      under = lt→ltb 0 (m * up e * 1 + 2 ^ 64 * down e) (omega (arith, down_pos e));
      is = sym (ap (λ (x : ℕ). x / den) n ∙ div-eq_of_lt D);
    }

-- ---- the units of an angle from 0 to 1080

upright_most : (s : Bool) (m : ℕ) (e : ℤ) → T (is_upright (fin s m e))
    → (m * up e ≤ 1080 * down e) × (T s → m * up e ≡ 0)
unfolding is_upright lt
upright_most s m e t =
    let low = not (lt (fin s m e) zero_float) in
    let inside = is_inside limit (fin s m e) in
    (inside_most s m e (and_r low inside t), nothing s (and_l low inside t))
  where
    nothing : (s : Bool) → T (not (lt (fin s m e) zero_float)) → T s → m * up e ≡ 0
    nothing true n t = let h = nltb→le 0 (m * up e * 1 + 0 * down e) n in omega arith
    nothing false n t = absurd t

-- times 2 ^ 52 it is exact
module _ (s : Bool) (m : ℕ) (e : ℤ) (t : T (fits binary64 (fin s m e))) (h : m * up e ≤ 1080 * down e)
    (n : T s → m * up e ≡ 0) where
  raised : Fraction
  raised = number (fin s m e) ⊗ whole (2 ^ 52)

  raised_size : (s : Bool) → Size 1 (signed s (m * up e) (down e) ⊗ whole (2 ^ 52)) (1080 * 2 ^ 52)
  raised_size true = record { above = omega arith; below = omega arith }
  raised_size false = record { above = omega arith; below = omega arith }

  raised_pos : 0 < raised.over
  unfolding raised
  raised_pos = mul-pos {n = 1} (down_pos e) (lit< tt)

  raised_held : Holds binary64 raised
  unfolding raised
  raised_held = power_held binary64 (number (fin s m e)) 52 (down_pos e)
      (float_held binary64 (fin s m e) (down_pos e) t) (size_wider (raised_size s) (lit≤ tt))

  raised_result : Result binary64 (mul binary64 (fin s m e) (fin false 1 (pos 52))) raised
  unfolding raised
  raised_result = mul_result binary64 (fin s m e) (fin false 1 (pos 52)) (down_pos e) (lit< tt)

  raised_is : Same raised (fraction (m * up e * 2 ^ 52) 0 (down e))
  unfolding raised
  raised_is = go s n
    where
      go : (s : Bool) → (T s → m * up e ≡ 0) → Same (signed s (m * up e) (down e) ⊗ whole (2 ^ 52))
          (fraction (m * up e * 2 ^ 52) 0 (down e))
      go true z = rw (z tt) (omega arith)
      go false z = omega arith

  raised_cut : Cut (mul binary64 (fin s m e) (fin false 1 (pos 52))) (m * up e * 2 ^ 52 / down e)
  raised_cut =
      let z = mul binary64 (fin s m e) (fin false 1 (pos 52)) in
      cut_number z (m * up e * 2 ^ 52) (down e) (result_number binary64 raised_pos raised_held raised_result)
      (down_pos e) (omega (arith, down_pos e))
      (same_trans (number z) raised (fraction (m * up e * 2 ^ 52) 0 (down e)) raised_pos
      (result_exact binary64 raised_pos raised_held raised_result) raised_is)

pub upright_cut : (d : Float) → T (fits binary64 d) → T (is_upright d)
    → Cut (mul binary64 d (fin false 1 (pos 52))) (units d)
unfolding units is_upright is_inside lt le eq neg of_int
upright_cut nan t a = absurd a
upright_cut (inf true) t a = absurd a
upright_cut (inf false) t a = absurd a
upright_cut (fin s m e) t a = let b = upright_most s m e a in raised_cut s m e t b.0 b.1

-- ---- an angle inside, turned: below 0 by its opposite's units

pub negated : (d : Float) → T (is_inside limit d) → lt d (of_int binary64 (pos 0)) ≡ true
    → T (is_upright (neg d)) × (units (neg d) ≡ units d) × ((turn - units d % turn) % turn ≡ place d)
unfolding is_upright is_inside lt le eq neg of_int place cut_angle units Defined.turned
negated nan t l = absurd (false≢true l)
negated (inf true) t l = absurd t
negated (inf false) t l = absurd t
negated (fin false m e) t l = absurd
    (lt_irrefl (m * up e * 1) (lt_of_lt_of_le (ltb→lt (m * up e * 1) (0 * down e) (subst T (sym l) tt))
    (omega arith)))
negated (fin true m e) t l =
    let u = m * up e * 2 ^ 52 / down e in
    let h = inside_most true m e t in
    let inside = accepted_inside limit (fin false m e)
    (size_accepted limit (fin false m e) (lit< tt) (down_pos e) (omega arith)) in (
      and_i (not (lt (fin false m e) zero_float)) (is_inside limit (fin false m e))
          (le→nltb (m * up e * 1) (0 * down e) (omega arith)) inside,
      refl,
      (ap (λ (n : ℕ). n % turn) (sym (zero-add (turn - u % turn)))),
    )

pub itself : (d : Float) → T (is_inside limit d) → lt d (of_int binary64 (pos 0)) ≡ false
    → T (is_upright d) × (units d % turn ≡ place d)
unfolding is_upright is_inside lt le eq neg of_int place cut_angle units Defined.turned
itself nan t l = absurd t
itself (inf true) t l = absurd t
itself (inf false) t l = absurd t
itself (fin false m e) t l = (
  and_i (not (lt (fin false m e) zero_float)) (is_inside limit (fin false m e))
      (subst (λ (b : Bool). T (not b)) (sym l) tt) t,
  (sym (add-mod_right (m * up e * 2 ^ 52 / down e) turn)),
)
itself (fin true m e) t l =
    let z : m * up e ≡ 0 = omega (arith, ltb-false 0 (m * up e * 1 + 0 * down e) l) in
    let u : m * up e * 2 ^ 52 / down e ≡ 0 = ap (λ (n : ℕ). n * 2 ^ 52 / down e) z ∙ zero-div (down e) in (
      and_i (not (lt (fin true m e) zero_float)) (is_inside limit (fin true m e))
          (subst (λ (b : Bool). T (not b)) (sym l) tt) t,
      (ap (λ (n : ℕ). n % turn) u ∙ sym (ap (λ (n : ℕ). (0 + (turn - n % turn)) % turn) u)),
    )

pub place_less : (d : Float) → place d < turn
unfolding place cut_angle Defined.turned
place_less nan = lit< tt
place_less (inf s) = lit< tt
place_less (fin s m e) = mod-lt _ (lit< tt)

-- ---- the result: n / 2 ^ 51, exactly

quotient : (v : Float) (n : ℕ) → n < 2 ^ 53 → HasValue v false n 1
    → HasValue (div binary64 v (fin false 1 (pos 51))) false n (2 ^ 51)
unfolding div
quotient nan n h v = elim v [ ]
quotient (inf _) n h v = elim v [ ]
quotient (fin true m e) n h v = absurd (true≢false v.0)
quotient (fin false m e) n h v = rw (← round_same binary64 false n (2 ^ 51) (m * up e * 1) (2 ^ 51 * down e) (lit< tt)
    (mul-pos (pow_pos 51) (down_pos e)) (mul_left_comm n (2 ^ 51) (down e) ∙ mul_comm (2 ^ 51) (n * down e)
    ∙ ap (λ (x : ℕ). x * 2 ^ 51) (sym v.1))) (literal_held binary64 false n 51 h (lit≤ tt))

-- rounded from units of 2 ^ -60 to units of 2 ^ -51 it moves by 256 of the former at most
upright_close : (s : ℕ) → Close one (fraction ((s + 256) / 512) 0 (2 ^ 51)) (fraction s 0 one) 256
upright_close s = record { first = lit< tt; second = lit< tt; above = omega arith; below = omega arith }

pub rounded_close : (b : Bool) (s : ℕ) → s < 2 ^ 62 - 256 → Close one (number (rounded_units b s)) (signed b s one) 256
unfolding rounded_units of_int
rounded_close b s h = go b
  where
    n : ℕ
    n = (s + 256) / 512

    v : Float
    v = div binary64 (round binary64 false n 1) (fin false 1 (pos 51))

    is : HasValue v false n (2 ^ 51)
    is = quotient (round binary64 false n 1) n (omega arith) (round_whole binary64 false n (omega arith))

    plus : Close one (number v) (fraction s 0 one) 256
    plus = close_same (number v) (fraction s 0 one) (value_number v false n (2 ^ 51) is) (lit< tt)
        (value_same v false n (2 ^ 51) is) (same_refl (fraction s 0 one)) (upright_close s)

    minus : (z : Bool) → (T z → n ≡ 0) → Close one (number (cond z v (neg v))) (fraction 0 s one) 256
    minus false k = rw (number_neg v) (close_opposite plus)
    minus true k =
        close_same (number v) (fraction 0 s one) (value_number v false n (2 ^ 51) is) (lit< tt)
        (subst (λ (j : ℕ). Same (number v) (fraction 0 j (2 ^ 51))) (sym (k tt))
        (subst (λ (j : ℕ). Same (number v) (fraction j 0 (2 ^ 51))) (k tt) (value_same v false n (2 ^ 51) is)))
        (same_refl (fraction 0 s one))
        (close_opposite (upright_close s))

    go : (b : Bool) → Close one (number (cond b (cond (eqb n 0) v (neg v)) v)) (signed b s one) 256
    go false = plus
    go true = minus (eqb n 0) (eqb→eq n 0)
