-- Wrong ways to answer, each held against the promise on an input where it breaks it. Assumes nothing.
use Rattle.std.specs.Prelude.{◌≡◌, ◌∷◌}
use Rattle.lists.specs.Prelude.{refl, sym, ap, ◌∙◌, Bool, true, false, true≢false, List, ℕ, arith, le→leb, negsuc}
use Rattle.lists.specs.Prelude.{Float, nan, fin, lt, le, eq, neg, of_int}
use Rattle.refusals.proofs.First.{or_off}
use Rattle.formats.specs.Floats.{zero_float}
use Rattle.series.specs.Sums.{sine_sum, term, power, factorial}
use Rattle.series.specs.Angles.{turned, around, reduced, radians, is_multiple, quarters, defined}
use Rattle.harmonics.specs.Formulas.{formulas_over}
use Rattle.harmonics.specs.Computed.{waves_of, up_to}
use Rattle.angles.specs.Limits.{is_inside, refuses_angle}
use Rattle.harmonics.specs.Promise.{refuses_azimuth, refuses_elevation, refuses_direction, silent_gains}
use Rattle.harmonics.specs.Promise.{HarmonicsPromise}
use Rattle.harmonics.specs.declared.Direction.{Direction}
use Rattle.harmonics.specs.Promise.{Coefficients}
use Rattle.harmonics.specs.Drill.{at}

refusal : Coefficients → ℕ
refusal r = r.refusal

-- it refuses every direction: the front is accepted
refuses_always : HarmonicsPromise 1 (at 0 0) (record { refusal = 3; gains = silent_gains }) → ⊥
unfolding refusal refuses_angle is_inside lt le eq neg of_int
refuses_always p = let e : ◌≡◌ {A = ℕ} 3 0 = ap refusal p.bits in omega arith

-- it is silent: channel 0 is 1
silent : HarmonicsPromise 1 (at 0 0) (record { refusal = 0; gains = silent_gains }) → ⊥
unfolding refuses_angle is_inside lt le eq neg of_int formulas_over
silent p = le→leb _ _ (p.words refl).0.near

-- it plays an order that it does not know as order 1, as 000 does
falls_back : HarmonicsPromise 4 (at 0 0) (record { refusal = 0; gains = up_to 1 (waves_of (at 0 0)) }) → ⊥
unfolding refusal
falls_back p = let e : ◌≡◌ {A = ℕ} 0 1 = ap refusal p.bits in omega arith

-- it plays an azimuth that is NaN as 0
nan_in_front : HarmonicsPromise 1 (record { azimuth = nan; elevation = zero_float })
    (record { refusal = 0; gains = up_to 1 (waves_of (at 0 0)) }) → ⊥
unfolding refusal refuses_angle
nan_in_front p = let e : ◌≡◌ {A = ℕ} 0 3 = ap refusal p.bits in omega arith

-- it takes the ends of -180..180 and -90..90 for outside
refuses_the_ends : HarmonicsPromise 1 (at 180 90) (record { refusal = 3; gains = silent_gains }) → ⊥
unfolding refusal refuses_angle is_inside lt le eq neg of_int
refuses_the_ends p = let e : ◌≡◌ {A = ℕ} 3 0 = ap refusal p.bits in omega arith

-- of an order and a direction that are both refused it tells the direction
direction_first : HarmonicsPromise 0 (at 181 0) (record { refusal = 3; gains = silent_gains }) → ⊥
unfolding refusal
direction_first p = let e : ◌≡◌ {A = ℕ} 3 1 = ap refusal p.bits in omega arith

-- it keeps 33 binary places: channel 1 at 45 degrees, cut there, is more than 2^-34 too small
cut_to_33_places : (w : Float) (g : List Float) → HarmonicsPromise 1 (at 45 0)
    (record { refusal = 0; gains = w ∷ fin false 6074000999 (negsuc 32) ∷ g }) → ⊥
unfolding refuses_angle is_inside lt le eq neg of_int formulas_over defined is_multiple quarters turned reduced around
    radians sine_sum term power factorial
cut_to_33_places w g p = le→leb _ _ (p.words refl).1.0.near

-- it judges a direction by its azimuth alone
elevation_not_judged : (d : Direction) (r : Bool) → refuses_elevation d.elevation ≡ true → r ≡ refuses_direction d
    → r ≡ false → ⊥
elevation_not_judged d r bad is off =
    true≢false (sym bad ∙ (or_off (refuses_azimuth d.azimuth) (refuses_elevation d.elevation) (sym is ∙ off)).1)

-- it judges a direction by its elevation alone
azimuth_not_judged : (d : Direction) (r : Bool) → refuses_azimuth d.azimuth ≡ true → r ≡ refuses_direction d
    → r ≡ false → ⊥
azimuth_not_judged d r bad is off =
    true≢false (sym bad ∙ (or_off (refuses_azimuth d.azimuth) (refuses_elevation d.elevation) (sym is ∙ off)).0)
