-- Wrong ways to answer, each held against the promise at an angle where it breaks it. Assumes nothing.
use Rattle.std.specs.Prelude.{◌≡◌}
use Rattle.lists.specs.Prelude.{refl, ap, Bool, true, false, true≢false, false≢true, ℕ, arith, le→leb, pos, negsuc}
use Rattle.lists.specs.Prelude.{Float, nan, inf, fin, lt, le, eq, neg, of_int}
use lib.Ieee.Positive.{num}
use Rattle.series.specs.Sums.{sine, cosine, sine_sum, term, power, factorial}
use Rattle.series.specs.Angles.{turned, around, reduced, radians, is_multiple, quarters, defined}
use Rattle.angles.specs.Promise.{Answer}
use Rattle.angles.specs.Limits.{is_inside, refuses_angle}
use Rattle.formats.specs.Floats.{zero_float, one_float, float}
use Rattle.angles.specs.Promise.{WavePromise}

sign : Float → Bool
sign nan = false
sign (inf s) = s
sign (fin s m e) = s

-- it refuses every angle: that of 1 degree is accepted
refuses_always : WavePromise sine (float (pos 1)) (record { refusal = 3; value = zero_float }) → ⊥
unfolding refuses_angle is_inside lt le eq neg of_int
refuses_always p = let e : ◌≡◌ {A = ℕ} 3 0 = ap (λ (r : Answer). r.refusal) p.bits in omega arith

-- it refuses nothing
refuses_never : WavePromise cosine nan (record { refusal = 0; value = one_float }) → ⊥
unfolding refuses_angle
refuses_never p = let e : ◌≡◌ {A = ℕ} 0 3 = ap (λ (r : Answer). r.refusal) p.bits in omega arith

-- it takes the ends of -1080..1080 for outside
refuses_1080 : WavePromise sine (float (pos 1080)) (record { refusal = 3; value = zero_float }) → ⊥
unfolding refuses_angle is_inside lt le eq neg of_int
refuses_1080 p = let e : ◌≡◌ {A = ℕ} 3 0 = ap (λ (r : Answer). r.refusal) p.bits in omega arith

-- it says 0.0 at every angle: at 90 the sine is 1.0
always_zero : WavePromise sine (float (pos 90)) (record { refusal = 0; value = zero_float }) → ⊥
unfolding refuses_angle is_inside lt le eq neg of_int is_multiple quarters turned
always_zero p = let e : ◌≡◌ {A = ℕ} 0 1 = ap num ((p.words refl).exact tt) in omega arith

-- it gives 0 a sign
minus_zero : WavePromise sine (float (pos 180)) (record { refusal = 0; value = fin true 0 (pos 0) }) → ⊥
unfolding refuses_angle is_inside lt le eq neg of_int is_multiple quarters turned sign
minus_zero p = true≢false (ap sign ((p.words refl).exact tt))

-- it takes the shorter way from 0 and forgets on which side: at 270 the sine is -1.0
side_forgotten : WavePromise sine (float (pos 270)) (record { refusal = 0; value = one_float }) → ⊥
unfolding refuses_angle is_inside lt le eq neg of_int is_multiple quarters turned sign
side_forgotten p = false≢true (ap sign ((p.words refl).exact tt))

-- it takes degrees for radians: at 1 degree the sine of 1 radian, 0.8414709848078965
radians_taken : WavePromise sine (float (pos 1))
    (record { refusal = 0; value = fin false 3789648413623927 (negsuc 51) })
    → ⊥
unfolding refuses_angle is_inside lt le eq neg of_int defined is_multiple quarters turned reduced around radians
    sine_sum
    term power factorial
radians_taken p = le→leb _ _ (p.words refl).near.near

-- it keeps 39 binary places: the sine of 2 degrees, cut there, is more than 2^-40 too small
cut_to_39_places : WavePromise sine (float (pos 2)) (record { refusal = 0; value = fin false 19186201213 (negsuc 38) })
    → ⊥
unfolding refuses_angle is_inside lt le eq neg of_int defined is_multiple quarters turned reduced around radians
    sine_sum
    term power factorial
cut_to_39_places p = le→leb _ _ (p.words refl).near.near
