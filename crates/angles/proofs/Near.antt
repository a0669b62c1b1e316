-- The program's sine and cosine are within 2 ^ -50 of the defined ones at every angle that is a number. In units of 2 ^
-- -60: 375 from the float to the sum at the place that the cut angle is turned to, 192 from there to the sum at the
-- angle's own place, and 64 from there to the defined value, 631 of 1024. Assumes nothing.
use Rattle.std.specs.Prelude.{◌≡◌, ◌+◌, ◌-◌, ◌*◌, ◌/◌, ◌%◌, ◌^◌, ◌≤◌, ◌<◌}
use Rattle.lists.specs.Prelude.{refl, subst, Bool, true, false, not, cond, ℕ, le_of_lt, mod-lt, div-mul-le_self}
use Rattle.lists.specs.Prelude.{lt-div-mul-add, arith, ltb, lit<, lit≤, ℤ, pow_pos, Float, fin, unlike, up, down}
use Rattle.lists.specs.Prelude.{lt-ltb, le-ltb}
use lib.Ieee.Fits.{down_pos}
use Rattle.fractions.specs.Fraction.{Fraction, fraction, opposite, signed, number, ◌⊗◌, Same, Within}
use Rattle.fractions.proofs.Order.{same_refl, same_mul}
use Rattle.fractions.proofs.Number.{by_number}
use Rattle.fractions.proofs.Restate.{opposite-⊗}
use Rattle.fractions.proofs.Close.{Close, close_same, close_sym, close_opposite, close_wider, close_trans, close_unit}
use Rattle.fractions.proofs.Within.{within_close, counted_within}
use Rattle.series.specs.Sums.{Wave, sine, cosine, sum}
use Rattle.series.specs.Angles as Defined
use Rattle.series.specs.Angles.{defined}
use Rattle.series.proofs.Reduction.{by_side}
use Rattle.series.proofs.Laws.{sum_number, sum_same, sum_opposite, defined_sum, reduced_close}
use Rattle.angles.specs.Computed.{one, turn, half, cut_angle, units, place, short, times, radian_units, outermost}
use Rattle.angles.specs.Computed.{from_one}
use Rattle.angles.specs.Computed.{rounded_units, sine_at, cosine_at, wave_at, wave_computed}
use Rattle.angles.proofs.Waves.{angle, sine_close, cosine_close}
use Rattle.angles.proofs.Room.{short_low, short_high, radians_most, sine_fits, cosine_fits}
use Rattle.angles.proofs.Floats.{rounded_close}

-- ---- up to half a turn: r units from 0

-- the sign and the size before the last rounding
abbrev sine_sign : ℕ → Bool
sine_sign r = ltb one (outermost (radian_units r) 25)

abbrev sine_size : ℕ → ℕ
sine_size r = times (radian_units r) (from_one (outermost (radian_units r) 25))

abbrev cosine_sign : ℕ → Bool
cosine_sign r = ltb one (outermost (radian_units r) 26)

abbrev cosine_size : ℕ → ℕ
cosine_size r = from_one (outermost (radian_units r) 26)

module _ (r : ℕ) (h : r ≤ half) where
  sine_up : Close one (number (rounded_units (sine_sign r) (sine_size r))) (sum sine (angle r)) 375
  sine_up = close_trans (rounded_close (sine_sign r) (sine_size r) (sine_fits (radian_units r) (radians_most r h)))
      (sine_close r h)

  -- with the other sign
  sine_down : Close one (number (rounded_units (not (sine_sign r)) (sine_size r))) (sum sine (opposite (angle r))) 375
  sine_down =
      rw (sum_opposite sine (angle r))
      (close_trans (rounded_close (not (sine_sign r)) (sine_size r) (sine_fits (radian_units r) (radians_most r h)))
      (turned (sine_sign r) (sine_size r) (sine_close r h)))
    where
      turned : (b : Bool) (s : ℕ) → Close one (signed b s one) (sum sine (angle r)) 119
          → Close one (signed (not b) s one) (opposite (sum sine (angle r))) 119
      turned true s c = close_opposite c
      turned false s c = close_opposite c

  cosine_up : Close one (number (rounded_units (cosine_sign r) (cosine_size r))) (sum cosine (angle r)) 375
  cosine_up = close_wider
      (close_trans (rounded_close (cosine_sign r) (cosine_size r) (cosine_fits (radian_units r) (radians_most r h)))
      (cosine_close r h)) (lit≤ tt)

-- ---- at any place on the turn: beyond half a turn the reduced angle is below 0, and its opposite is what is left of
-- the turn

angle_opposite : (a : ℕ) → a ≤ turn → Same (opposite (angle (turn - a))) (Defined.radians (fraction a turn (2 ^ 52)))
unfolding angle Defined.radians
angle_opposite a h =
    let c = Defined.degree in
    subst (λ (x : Fraction). Same x (fraction a turn (2 ^ 52) ⊗ c)) (opposite-⊗ (fraction (turn - a) 0 (2 ^ 52)) c)
    (same_mul (opposite (fraction (turn - a) 0 (2 ^ 52))) (fraction a turn (2 ^ 52)) c c (omega arith) (same_refl c))

here_number : (w : Wave) (a : ℕ) → 0 < (sum w (Defined.radians (fraction a turn (2 ^ 52)))).over
unfolding Defined.radians
here_number w a = sum_number w (Defined.radians (fraction a turn (2 ^ 52))) (lit< tt)

renamed : (w : Wave) (a : ℕ) (x y : Fraction) → Close one x (sum w y) 375
    → Same y (Defined.radians (fraction a turn (2 ^ 52)))
    → Close one x (sum w (Defined.radians (fraction a turn (2 ^ 52)))) 375
renamed w a x y c e = close_same x (sum w (Defined.radians (fraction a turn (2 ^ 52)))) c.first (here_number w a)
    (same_refl x) (sum_same w y (Defined.radians (fraction a turn (2 ^ 52))) e) c

up_is : (b : Bool) → unlike false b ≡ b
up_is true = refl
up_is false = refl

down_is : (b : Bool) → unlike true b ≡ not b
down_is true = refl
down_is false = refl

module _ (a : ℕ) where
  sine_is : {r : ℕ} {s : Bool} → short a ≡ r → ltb half a ≡ s
      → sine_at a ≡ rounded_units (unlike s (sine_sign r)) (sine_size r)
  unfolding sine_at
  sine_is p q = λ i. rounded_units (unlike (q i) (sine_sign (p i))) (sine_size (p i))

  cosine_is : {r : ℕ} → short a ≡ r → cosine_at a ≡ rounded_units (cosine_sign r) (cosine_size r)
  unfolding cosine_at
  cosine_is p = λ i. rounded_units (cosine_sign (p i)) (cosine_size (p i))

  low_close : a ≤ half → (w : Wave) → Close one (number (wave_at w a)) (sum w (Defined.radians (fraction a 0 (2 ^ 52))))
      375
  unfolding angle
  low_close h sine = rw (sine_is (short_low a h) (le-ltb half a h), up_is (sine_sign a)) (sine_up a h)
  low_close h cosine = rw (cosine_is (short_low a h)) (cosine_up a h)

  high_close : half < a → a < turn → (w : Wave) → Close one (number (wave_at w a))
      (sum w (Defined.radians (fraction a turn (2 ^ 52)))) 375
  high_close h k sine =
      let r = turn - a in
      renamed sine a (number (sine_at a)) (opposite (angle r))
      (rw (sine_is (short_high a h) (lt-ltb half a h), down_is (sine_sign r)) (sine_down r (omega arith)))
      (angle_opposite a (le_of_lt k))
  high_close h k cosine =
      let r = turn - a in
      renamed cosine a (number (cosine_at a)) (opposite (angle r))
      (rw (cosine_is (short_high a h), sum_opposite cosine (angle r)) (cosine_up r (omega arith)))
      (angle_opposite a (le_of_lt k))

-- ---- the angle, cut

cut_nat : (n D : ℕ) → 0 < D → Close (2 ^ 52) (fraction n 0 D) (fraction (n * 2 ^ 52 / D) 0 (2 ^ 52)) 1
cut_nat n D o =
    let u = n * 2 ^ 52 / D in
    let lo : u * D ≤ n * 2 ^ 52 = div-mul-le_self (n * 2 ^ 52) D in
    let hi : n * 2 ^ 52 < u * D + D = lt-div-mul-add o in
    record { first = o; second = lit< tt; above = omega arith; below = omega arith }

cut_close : (s : Bool) (m : ℕ) (e : ℤ) → Close (2 ^ 52) (number (fin s m e)) (cut_angle (fin s m e)) 1
unfolding cut_angle units
cut_close false m e = cut_nat (m * up e) (down e) (down_pos e)
cut_close true m e = close_opposite (cut_nat (m * up e) (down e) (down_pos e))

-- the sum at its reduced angle is that at its place
placed : (w : Wave) (p m : ℕ) → Close one (number (wave_at w (Defined.turned (fraction p m (2 ^ 52)))))
    (sum w (Defined.radians (Defined.reduced (fraction p m (2 ^ 52))))) 375
unfolding Defined.reduced
placed w p m = by_side (λ (x : Fraction). Close one (number (wave_at w a)) (sum w (Defined.radians x)) 375) a (2 ^ 52)
    (λ l. low_close a l w) (λ h. high_close a h under w)
  where
    a : ℕ
    a = Defined.turned (fraction p m (2 ^ 52))

    under : a < turn
    under = unfold Defined.turned in (mod-lt (p + (turn - m % turn)) (lit< tt))

-- ---- all together

pub computed_near : (w : Wave) (d : Float) → 0 < (number d).over
    → Within 50 (number (wave_computed w d)) (defined w (number d))
unfolding wave_computed place
computed_near w = by_number (λ d. Within 50 (number (wave_computed w d)) (defined w (number d))) (λ s m e.
    let q = number (fin s m e) in
    let c = cut_angle (fin s m e) in
    let first : Close one (number (wave_at w (Defined.turned c))) (sum w (Defined.radians (Defined.reduced c)))
    375 = unfold cut_angle in (placed w (cond s 0 (units (fin s m e))) (cond s (units (fin s m e)) 0)) in
    let second : Close one (sum w (Defined.radians (Defined.reduced c))) (sum w (Defined.radians (Defined.reduced q)))
    192 =
    close_sym (close_unit (lit< tt) (lit≤ tt) (reduced_close w (pow_pos 52) (cut_close s m e))) in
    let third : Close one (sum w (Defined.radians (Defined.reduced q))) (defined w q) 64 = close_unit (lit< tt)
    (lit≤ tt) (close_sym (within_close (defined_sum w q (down_pos e)))) in
    counted_within (lit< tt) (lit≤ tt) (close_trans (close_trans first second) third))
