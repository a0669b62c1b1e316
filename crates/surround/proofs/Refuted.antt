-- Wrong ways to answer, each held against the promise at an azimuth where it breaks it. Assumes nothing.
use Rattle.std.specs.Prelude.{◌≡◌, ◌∷◌}
use Rattle.lists.specs.Prelude.{refl, ap, ◌∙◌, false, List, ℕ, arith, le→leb, lit<, pos, negsuc, Float, nan, fin}
use Rattle.lists.specs.Prelude.{binary64, lt, le, eq, neg, of_int, of_bits}
use Rattle.formats.specs.Floats.{zero_float, one_float, float}
use Rattle.series.specs.Sums.{cosine_sum, term, power, factorial}
use Rattle.series.specs.Angles.{turned, around, reduced, radians, is_multiple, quarters, defined}
use Rattle.angles.specs.Limits.{is_inside, refuses_angle}
use Rattle.channel.specs.declared.Layout.{Layout}
use Rattle.channel.specs.declared.Layout.TheVariants.{Stereo, Surround51, Surround71, Custom}
use Rattle.surround.specs.Promise.{SurroundGains}
use Rattle.harmonics.specs.Promise.{silent_gains}
use Rattle.surround.specs.Formula.{distance, raw_gain, raw_at}
use Rattle.surround.specs.Promise.{SurroundPromise, outcome}
use Rattle.surround.proofs.Drill.{at_120, custom_17, stereo_and_nan, beyond_180}

same_refusal : {l : Layout} {a : Float} {r s : SurroundGains} → SurroundPromise l a r → outcome l a ≡ s
    → r.refusal ≡ s.refusal
same_refusal p e = ap (λ (g : SurroundGains). g.refusal) (p.bits ∙ e)

-- it refuses every azimuth
refuses_always : SurroundPromise Surround51 (float (pos 120)) (record { refusal = 3; gains = silent_gains }) → ⊥
refuses_always p = let e : ◌≡◌ {A = ℕ} 3 0 = same_refusal p at_120 in omega arith

-- it is silent: Ls sounds alone, so that the square of its exact gain is 1
silent : SurroundPromise Surround51 (float (pos 120)) (record { refusal = 0; gains = silent_gains }) → ⊥
unfolding refuses_angle is_inside lt le eq neg of_int raw_at raw_gain distance defined is_multiple quarters turned
    reduced
    around radians cosine_sum term power factorial
silent p = le→leb _ _ ((p.words refl).near 4 (lit< tt)).above

-- the speaker pointed at is silent, as the Rust has it: C at 0 degrees
pointed_at_silent : (l r : Float) (g : List Float) → SurroundPromise Surround51 (float (pos 0))
    (record { refusal = 0; gains = l ∷ r ∷ zero_float ∷ g }) → ⊥
unfolding refuses_angle is_inside lt le eq neg of_int raw_at raw_gain distance defined is_multiple quarters turned
    reduced
    around radians cosine_sum term power factorial
pointed_at_silent l r g p = le→leb _ _ ((p.words refl).near 2 (lit< tt)).above

-- and L at 30 degrees, where trainees found the left speaker dead
left_dead : (g : List Float) → SurroundPromise Surround51 (float (pos 30))
    (record { refusal = 0; gains = zero_float ∷ g }) → ⊥
unfolding refuses_angle is_inside lt le eq neg of_int raw_at raw_gain distance defined is_multiple quarters turned
    reduced
    around radians cosine_sum term power factorial
left_dead g p = le→leb _ _ ((p.words refl).near 0 (lit< tt)).above

-- the three in front share alike at 0 degrees: each has the f64 nearest to the root of 1/3
equal_thirds : (l r : Float) (g : List Float) → SurroundPromise Surround51 (float (pos 0))
    (record { refusal = 0; gains = l ∷ r ∷ of_bits binary64 0x3FE279A74590331C ∷ g }) → ⊥
unfolding of_bits refuses_angle is_inside lt le eq neg of_int raw_at raw_gain distance defined is_multiple quarters
    turned
    reduced around radians cosine_sum term power factorial
equal_thirds l r g p = le→leb _ _ ((p.words refl).near 2 (lit< tt)).above

-- the speaker pointed at sounds alone: L and R are less than 90 degrees away, and sound too
centre_alone : (l r : Float) (g : List Float) → SurroundPromise Surround51 (float (pos 0))
    (record { refusal = 0; gains = l ∷ r ∷ one_float ∷ g }) → ⊥
unfolding refuses_angle is_inside lt le eq neg of_int raw_at raw_gain distance defined is_multiple quarters turned
    reduced
    around radians cosine_sum term power factorial
centre_alone l r g p = le→leb _ _ ((p.words refl).near 2 (lit< tt)).below

-- it plays a layout of seventeen channels
custom_played : (g : List Float) → SurroundPromise (Custom 17) (float (pos 0)) (record { refusal = 0; gains = g }) → ⊥
custom_played g p = let e : ◌≡◌ {A = ℕ} 0 2 = same_refusal p custom_17 in omega arith

-- it refuses a layout that is not offered with the azimuth's number, and an azimuth that is outside with the layout's
layout_refused_by_3 : (g : List Float) → SurroundPromise Stereo nan (record { refusal = 3; gains = g }) → ⊥
layout_refused_by_3 g p = let e : ◌≡◌ {A = ℕ} 3 2 = same_refusal p stereo_and_nan in omega arith

azimuth_refused_by_2 : (g : List Float) → SurroundPromise Surround71 (float (pos 181))
    (record { refusal = 2; gains = g }) → ⊥
azimuth_refused_by_2 g p = let e : ◌≡◌ {A = ℕ} 2 3 = same_refusal p beyond_180 in omega arith

-- it is off by 2^-29, twice what document 01 allows: Ls sounds alone at 120 degrees, with a gain of 1
off_by_twice : (l r c f : Float) (g : List Float) → SurroundPromise Surround51 (float (pos 120))
    (record { refusal = 0; gains = l ∷ r ∷ c ∷ f ∷ fin false 536870911 (negsuc 28) ∷ g }) → ⊥
unfolding refuses_angle is_inside lt le eq neg of_int raw_at raw_gain distance defined is_multiple quarters turned
    reduced
    around radians cosine_sum term power factorial
off_by_twice l r c f g p = le→leb _ _ ((p.words refl).near 4 (lit< tt)).above
