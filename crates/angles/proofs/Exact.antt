-- At the multiples of 90 the program's floats are exactly +0.0, 1.0 and -1.0: such an angle is a whole number of
-- degrees, so that nothing is cut from it, and at the four places that it can be turned to the program's own numbers
-- come out so, by computation. Assumes nothing.
use Rattle.std.specs.Prelude.{◌≡◌, ◌+◌, ◌*◌, ◌/◌, ◌%◌, ◌^◌, ◌<◌}
use Rattle.lists.specs.Prelude.{refl, sym, ap, ◌∙◌, Bool, true, false, ℕ, add-mul-mod_self_left, mul-mod_right}
use Rattle.lists.specs.Prelude.{div-add-mod', eq_of_mul-eq-mul_right, lt_irrefl, arith, T, eqb→eq, lit<, get_or, Float}
use Rattle.lists.specs.Prelude.{nan, inf, fin, up, down, neg, div, of_int}
use lib.Ieee.Fits.{down_pos}
use Rattle.fractions.specs.Fraction.{fraction, signed, number, Same}
use Rattle.fractions.proofs.Number.{signed_same}
use Rattle.series.specs.Sums.{Wave, sine, cosine}
use Rattle.series.specs.Angles.{turned, is_multiple, quarters}
use Rattle.series.proofs.Laws.{multiple_only}
use Rattle.series.proofs.Reduction.{four, quarters_few, quarters_times, turned_less, turned_same}
use Rattle.angles.specs.Computed.{units, cut_angle, place, short, times, radian_units, nesting, nest, rounded_units}
use Rattle.angles.specs.Computed.{sine_at}
use Rattle.angles.specs.Computed.{cosine_at, wave_at, wave_computed}
use Rattle.formats.specs.Floats.{zero_float}
use Rattle.angles.specs.Promise.{exactly}

-- ---- the four places
at_quarter : (w : Wave) (k : ℕ) → k < 4 → wave_at w (k * (90 * 2 ^ 52)) ≡ get_or (exactly w) k zero_float
unfolding sine_at cosine_at rounded_units radian_units short times nesting nest of_int div neg
at_quarter sine = four (λ (k : ℕ). sine_at (k * (90 * 2 ^ 52)) ≡ get_or (exactly sine) k zero_float) refl refl refl refl
at_quarter cosine =
    four (λ (k : ℕ). cosine_at (k * (90 * 2 ^ 52)) ≡ get_or (exactly cosine) k zero_float) refl refl refl refl

-- ---- a whole number of degrees

divides : (n d x y u : ℕ) → n + d * x ≡ d * y → n * u % d ≡ 0
divides n d x y u e = sym (add-mul-mod_self_left (n * u) d (x * u))
    ∙ ap (λ (z : ℕ). z % d) (omega (arith, ap (λ (z : ℕ). z * u) e)) ∙ mul-mod_right d (y * u)

-- then nothing is cut, and the cut angle is the angle
module _ (s : Bool) (n d k : ℕ) (D : 0 < d) (m : T (is_multiple (signed s n d)))
    (e : turned (signed s n d) ≡ k * (90 * d)) where
  exact_units : n * 2 ^ 52 / d * d ≡ n * 2 ^ 52
  exact_units =
      omega (arith, div-add-mod' (n * 2 ^ 52) d, let (k, i, f) = multiple_only (signed s n d) D m in go s k i f)
    where
      go : (s : Bool) (k i : ℕ) → Same (signed s n d) (fraction (90 * k) (90 * i) 1) → n * 2 ^ 52 % d ≡ 0
      go false k i f = divides n d (90 * i) (90 * k) (2 ^ 52) (omega arith)
      go true k i f = divides n d (90 * k) (90 * i) (2 ^ 52) (omega arith)

  uncut : Same (signed s n d) (signed s (n * 2 ^ 52 / d) (2 ^ 52))
  uncut = signed_same s n d (n * 2 ^ 52 / d) (2 ^ 52) (sym exact_units)

  cut_place : turned (signed s (n * 2 ^ 52 / d) (2 ^ 52)) ≡ k * (90 * 2 ^ 52)
  cut_place =
      let c = signed s (n * 2 ^ 52 / d) (2 ^ 52) in
      eq_of_mul-eq-mul_right d D (turned c) (k * (90 * 2 ^ 52))
      (sym (turned_same (signed s n d) c D (lit< tt) uncut) ∙ ap (λ (x : ℕ). x * 2 ^ 52) e ∙ (omega arith))

-- ---- all together

pub computed_exact : (w : Wave) (d : Float) → 0 < (number d).over → T (is_multiple (number d))
    → wave_computed w d ≡ get_or (exactly w) (quarters (number d)) zero_float
unfolding wave_computed place cut_angle units is_multiple quarters
computed_exact w nan D h = absurd (lt_irrefl 0 D)
computed_exact w (inf s) D h = absurd (lt_irrefl 0 D)
computed_exact w (fin s m e) D h =
    let q = signed s (m * up e) (down e) in
    let r = turned q in
    let k = r / (90 * down e) in
    let l = turned_less q (down_pos e) in
    ap (wave_at w) (cut_place s (m * up e) (down e) k (down_pos e) h
    (quarters_times r (down e) (down_pos e) l (eqb→eq (r % (90 * down e)) 0 h)))
    ∙ at_quarter w k (quarters_few r (down e) (down_pos e) l)
