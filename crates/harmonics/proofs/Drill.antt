-- The marked drill table of document 01, items 1 to 3: "1. Order 3 at (0,0): channels 0, 3, 6, 8, 13, 15 are 1, 1,
-- -0.5, h, -m, q; the rest 0. 2. Order 1 at (90,0): 1, 1, 0, 0. 3. Elevation 90: channels 2, 6, 12 are 1; 1 and 3 are
-- 0." Each of the formulas, and of the floats that the program gives; at elevation 90 for every azimuth. Assumes
-- nothing.
use Rattle.std.specs.Prelude.{◌≡◌, ◌&&◌, ◌∷◌, ◌<◌}
use Rattle.lists.specs.Prelude.{refl, sym, subst, Bool, true, false, List, [], map, mul-pos, arith, T, lit<, lit≤}
use Rattle.lists.specs.Prelude.{Float, fin, binary64, round, add, sub, mul, div, neg, lt, le, eq, of_int, pos}
use lib.Ieee.Fits.{and_l, and_r}
use Rattle.formats.specs.Floats.{float}
use Rattle.fractions.specs.Fraction.{Fraction, number, whole, magnitude, ◌⊗◌, Same, AtMost}
use Rattle.fractions.proofs.Order.{same_sym, same_trans, is_same, same_computed}
use Rattle.fractions.proofs.Operations.{mul_result}
use Rattle.fractions.proofs.Exact.{result_exact}
use Rattle.fractions.proofs.ExactInFormat.{whole_held, same_held}
use Rattle.series.specs.Sums.{Wave, sine, cosine}
use Rattle.series.specs.Angles.{turned, is_multiple, quarters, defined, defined_sine, defined_cosine}
use Rattle.angles.specs.Computed.{units, cut_angle, place, short, times, radian_units, nesting, nest, rounded_units}
use Rattle.angles.specs.Computed.{sine_at, cosine_at}
use Rattle.angles.specs.Computed.{wave_computed}
use Rattle.angles.specs.Limits.{is_inside, refuses_angle}
use Rattle.angles.specs.Promise as Angles
use Rattle.harmonics.specs.Formulas.{sn3d_h, sn3d_q, sn3d_m, formulas_over, formulas}
use Rattle.harmonics.specs.Computed.{sin, cos, waves_of, up_to}
use Rattle.harmonics.specs.Promise.{refuses_azimuth, outcome}
use Rattle.harmonics.specs.Drill.{at, given, SameNumbers, zero_gain, front, front_floats, left_gains, Above}
use Rattle.harmonics.specs.declared.Direction.{Direction}
use Rattle.harmonics.proofs.Laws.{accepted, direction_accepted, elevation_accepted, azimuth_number, azimuth_size}
use Rattle.harmonics.proofs.Laws.{outcome_kept, gains_are}
use Rattle.harmonics.proofs.Near.{single}

-- of closed numbers it is decided by computing
abbrev pub is_alike : List Fraction → List Fraction → Bool
is_alike [] [] = true
is_alike (x ∷ xs) (y ∷ ys) = is_same x y && is_alike xs ys
is_alike [] (y ∷ ys) = false
is_alike (x ∷ xs) [] = false

pub alike : (xs ys : List Fraction) → T (is_alike xs ys) → SameNumbers xs ys
alike [] [] t = tt
alike (x ∷ xs) (y ∷ ys) t =
    (same_computed x y (and_l (is_same x y) (is_alike xs ys) t), alike xs ys (and_r (is_same x y) (is_alike xs ys) t))
alike [] (y ∷ ys) t = absurd t
alike (x ∷ xs) [] t = absurd t

pub drill_1 : SameNumbers (formulas 3 (whole 0) (whole 0)) (front sn3d_h sn3d_m sn3d_q)
unfolding formulas_over defined is_multiple quarters turned
drill_1 = alike (formulas 3 (whole 0) (whole 0)) (front sn3d_h sn3d_m sn3d_q) tt

pub drill_1_floats : SameNumbers (given 3 (at 0 0)) front_floats
unfolding refuses_angle is_inside up_to waves_of sin cos lt le eq wave_computed place cut_angle units turned sine_at
    cosine_at
    short
    times radian_units nesting nest rounded_units of_int div neg add sub mul round
drill_1_floats = alike (given 3 (at 0 0)) front_floats tt

pub drill_2 : SameNumbers (formulas 1 (whole 90) (whole 0)) left_gains
unfolding formulas_over defined is_multiple quarters turned
drill_2 = alike (formulas 1 (whole 90) (whole 0)) left_gains tt

pub drill_2_floats : SameNumbers (given 1 (at 90 0)) left_gains
unfolding refuses_angle is_inside up_to waves_of sin cos lt le eq wave_computed place cut_angle units turned sine_at
    cosine_at
    short
    times radian_units nesting nest rounded_units of_int div neg add sub mul round
drill_2_floats = alike (given 1 (at 90 0)) left_gains tt

-- 0 times a number
nothing : (x : Fraction) → Same (whole 0 ⊗ x) zero_gain
nothing x = omega arith

pub drill_3 : (a : Fraction) → Above (formulas 3 a (whole 90))
unfolding formulas_over defined is_multiple quarters turned
drill_3 a =
    record { one = nothing (defined_sine a); two = refl; three = nothing (defined_cosine a); six = refl; twelve = refl }

-- 0.0 times a float that is a number
nought : Float
nought = fin false 0 (pos 0)

nought_times : (y : Float) → 0 < (number y).over → Same (number (mul binary64 nought y)) zero_gain
unfolding nought
nought_times y Y =
    let p : 0 < (number nought ⊗ number y).over = mul-pos {m = 1} (lit< tt) Y in
    same_trans (number (mul binary64 nought y)) (number nought ⊗ number y) zero_gain p
    (result_exact binary64 p (same_held binary64 zero_gain (number nought ⊗ number y) (lit< tt)
    (same_sym (number nought ⊗ number y) zero_gain (nothing (number y))) (whole_held binary64 0 (lit< tt)))
    (mul_result binary64 nought y (lit< tt) Y))
    (nothing (number y))

risen : (a : Float) → 0 < (number a).over → AtMost (magnitude (number a)) (whole 180)
    → Above (map number (up_to 3 (waves_of (record { azimuth = a; elevation = float (pos 90) }))))
unfolding nought up_to waves_of sin cos refuses_angle is_inside lt le eq wave_computed place cut_angle units turned
    sine_at
    cosine_at
    short times radian_units nesting nest rounded_units of_int div neg add sub mul round
risen a A h = record { one = number_times sine; two = refl; three = number_times cosine; six = refl; twelve = refl }
  where
    number_times : (w : Wave) → Same (number (mul binary64 nought (Angles.outcome w a).value)) zero_gain
    number_times w = nought_times (Angles.outcome w a).value (single w a A h).near.first

pub drill_3_floats : (a : Float) → refuses_azimuth a ≡ false
    → Above (given 3 (record { azimuth = a; elevation = float (pos 90) }))
unfolding of_int
drill_3_floats a A =
    let d : Direction = record { azimuth = a; elevation = float (pos 90) } in
    subst (λ (xs : List Float). Above (map number xs))
    (sym (gains_are 3 d (outcome 3 d) (outcome_kept 3 d)
    (accepted 3 d refl (direction_accepted d A (elevation_accepted (float (pos 90)) (lit< tt) (lit≤ tt))))))
    (risen a (azimuth_number a A) (azimuth_size a A))
