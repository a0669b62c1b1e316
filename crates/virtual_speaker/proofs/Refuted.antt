-- Wrong ways to answer, each held against the promise on an input where it breaks it. Assumes nothing.
use Rattle.std.specs.Prelude.{◌≡◌, ◌∷◌, ◌++◌}
use Rattle.lists.specs.Prelude.{refl, ap, List, [], ℕ, arith, le→leb, false, pos, negsuc, replicate, Float, fin, lt, le}
use Rattle.lists.specs.Prelude.{eq, neg, round, of_int}
use Rattle.formats.specs.Floats.{zero_float, float, decimal}
use Rattle.series.specs.Sums.{cosine_sum, term, power, factorial}
use Rattle.series.specs.Angles.{turned, is_multiple, quarters, defined}
use Rattle.angles.specs.Limits.{is_inside, refuses_angle}
use Rattle.harmonics.specs.Formulas.{formulas_over}
use Rattle.harmonics.specs.Promise.{silent_gains}
use Rattle.harmonics.specs.Drill.{at}
use Rattle.harmonics.specs.declared.Direction.{Direction}
use Rattle.virtual_speaker.specs.Promise.{MaxRePromise, position_answer}
use Rattle.virtual_speaker.specs.Promise.{Weighted}
use Rattle.virtual_speaker.specs.Promise.{Position}

refusal : Weighted → ℕ
refusal r = r.refusal

-- it refuses every direction
refuses_always : MaxRePromise 1 (at 0 0) (record { refusal = 3; weights = silent_gains }) → ⊥
unfolding refusal refuses_angle is_inside lt le eq neg of_int
refuses_always p = let e : ◌≡◌ {A = ℕ} 3 0 = ap refusal p.bits in omega arith

-- it takes order 4 for the third, as 003 does
third_for_fourth : (ws : List Float) → MaxRePromise 4 (at 0 0) (record { refusal = 0; weights = ws }) → ⊥
unfolding refusal
third_for_fourth ws p = let e : ◌≡◌ {A = ℕ} 0 1 = ap refusal p.bits in omega arith

-- it takes 137.9 degrees for A, as the comment of 003 has it: the cosine of a quarter of that is 0.8243...
by_the_comment : MaxRePromise 1 (at 0 0)
    (record {
      refusal = 0;
      weights = (float (pos 1) ∷ zero_float ∷ zero_float ∷ decimal 8243732515066312 ∷ [])
          ++ replicate 12 zero_float;
    }) → ⊥
unfolding refuses_angle is_inside lt le eq neg round of_int formulas_over defined is_multiple quarters turned cosine_sum
    term
    power factorial
by_the_comment p = le→leb _ _ (p.words refl).1.1.1.0.near

-- there is a ninth position, whatever direction it has
ninth_position : (d : Direction) → ◌≡◌ {A = Position} (record { refusal = 0; direction = d }) (position_answer 8) → ⊥
ninth_position d h = let e : ◌≡◌ {A = ℕ} 0 2 = ap (λ (r : Position). r.refusal) h in omega arith

-- the eighth is none
eighth_refused : (d : Direction) → ◌≡◌ {A = Position} (record { refusal = 2; direction = d }) (position_answer 7) → ⊥
eighth_refused d h = let e : ◌≡◌ {A = ℕ} 2 0 = ap (λ (r : Position). r.refusal) h in omega arith

-- it rounds up to 33 binary places: the weight of channel 3, c itself, is then more than 2^-34 too large
rounded_up_to_33_places : (w y z : Float) (ws : List Float)
    → MaxRePromise 1 (at 0 0) (record { refusal = 0; weights = w ∷ y ∷ z ∷ fin false 1770517735 (negsuc 30) ∷ ws }) → ⊥
unfolding refuses_angle is_inside lt le eq neg of_int formulas_over defined is_multiple quarters turned cosine_sum term
    power
    factorial
rounded_up_to_33_places w y z ws p = le→leb _ _ (p.words refl).1.1.1.0.near
