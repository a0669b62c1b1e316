-- Wrong ways to answer, each held against the promise at a position where it breaks it. Assumes nothing.
use Rattle.std.specs.Prelude.{◌≡◌, ◌^◌}
use Rattle.lists.specs.Prelude.{refl, ap, ◌∙◌, true, false, ℕ, arith, le→leb, pos, negsuc, Float, inf, fin, round}
use Rattle.lists.specs.Prelude.{of_int}
use Rattle.formats.specs.Floats.{zero_float, one_float, float, literal}
use Rattle.series.specs.Sums.{cosine_sum, term, power, factorial}
use Rattle.series.specs.Angles.{turned, around, reduced, radians, is_multiple, quarters, defined}
use Rattle.stereo.specs.Angle.{clamped, angle}
use Rattle.stereo.specs.Promise.{StereoAnswer, refused, StereoPromise}
use Rattle.stereo.proofs.Drill.{accepted, at_minus_100, of_infinity}

-- it refuses every position
refuses_always : StereoPromise (float (negsuc 99)) (refused 3) → ⊥
refuses_always p =
    let e : ◌≡◌ {A = ℕ} 3 0 = ap (λ (g : StereoAnswer). g.refusal) (p.bits ∙ at_minus_100) in omega arith

-- it plays an infinite position as the end that it lies beyond
infinity_played : StereoPromise (inf true) (accepted one_float zero_float) → ⊥
infinity_played p =
    let e : ◌≡◌ {A = ℕ} 0 3 = ap (λ (g : StereoAnswer). g.refusal) (p.bits ∙ of_infinity) in omega arith

-- it is silent
silent : StereoPromise (float (negsuc 99)) (accepted zero_float zero_float) → ⊥
unfolding of_int clamped angle defined is_multiple quarters turned
silent p = le→leb _ _ (p.words refl).left.near

-- it does not clamp above: at 250 the angle would be 157.5 degrees, whose sine is 0.3826..
folded_back : (l : Float) → StereoPromise (float (pos 250)) (accepted l (literal (pos 3826834323650898) (10 ^ 16))) → ⊥
unfolding of_int round clamped angle defined is_multiple quarters turned
folded_back l p = le→leb _ _ (p.words refl).right.near

-- it keeps 35 binary places: at 50 the cosine of 67.5 degrees, cut there, is more than 2^-36 too small
cut_to_35_places : (r : Float) → StereoPromise (float (pos 50)) (accepted (fin false 13148902613 (negsuc 34)) r) → ⊥
unfolding of_int clamped angle defined is_multiple quarters turned reduced around radians cosine_sum term power
    factorial
cut_to_35_places r p = le→leb _ _ (p.words refl).left.near
