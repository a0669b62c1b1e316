-- Wrong ways through a ring, each held against the promise of `convolve` at one ring: 2^60, 1, -2^60 (f32 5D800000,
-- 3F800000, DD800000), newest at 0, taps 1, 1, 1. The promise gives 1.0 there, and each of these 0.0. The first two are
-- equal to it in algebra, and the others where all taps are the same. And wrong lengths of the first run. Assumes
-- nothing.
use Rattle.std.specs.Prelude.{◌≡◌, ◌∷◌, ◌++◌}
use Rattle.lists.specs.Prelude.{ℕ, suc, min, arith, refl, sym, ap, ◌∙◌, true, false, true≢false, List, [], map, reverse}
use Rattle.lists.specs.Prelude.{pos, take, drop, Float, fin, binary32, binary64, add, mul, sum, round, size, span}
use Rattle.lists.specs.Prelude.{climb, units, odd, of_bits}
use lib.Ieee.Positive.{positive}
use Rattle.formats.specs.Floats.{zero_float, one_float}
use Rattle.planes.specs.Sums.{dot}
use Rattle.hrtf_rings.specs.Unrolled.{unrolled}

three : List Float
three = fin false 1 (pos 60) ∷ one_float ∷ fin true 1 (pos 60) ∷ []

ones : List Float
ones = one_float ∷ one_float ∷ one_float ∷ []

three_bits : map (of_bits binary32) (0x5D800000 ∷ 0x3F800000 ∷ 0xDD800000 ∷ []) ≡ three
unfolding three of_bits odd
three_bits = refl

three_summed : dot zero_float (unrolled 1 three) ones ≡ one_float
unfolding three ones add mul sum round size span climb units odd
three_summed = refl

-- a way through a ring that has the promise of `convolve` does not give 0.0 at this one
abbrev Way : Type 0
Way = List Float → ℕ → List Float → Float

abbrev Convolves : Way → Type 0
Convolves way =
    (ring : List Float) (newest : ℕ) (taps : List Float)
    → way ring newest taps ≡ dot zero_float (unrolled (suc newest) ring) taps

not_silent : (way : Way) → way three 0 ones ≡ zero_float → Convolves way → ⊥
not_silent way e meets = true≢false (ap positive (sym three_summed ∙ sym (meets three 0 ones) ∙ e))

-- ---- five such ways

-- the two runs added apart
abbrev runs_apart : Way
runs_apart ring newest taps =
    add binary64 (dot zero_float (reverse (take (suc newest) ring)) (take (suc newest) taps))
    (dot zero_float (reverse (drop (suc newest) ring)) (drop (suc newest) taps))

-- the oldest signal first, each times its own tap
abbrev oldest_first : Way
oldest_first ring newest taps = dot zero_float (reverse (unrolled (suc newest) ring)) (reverse taps)

-- the second run before the first
abbrev runs_exchanged : Way
runs_exchanged ring newest taps =
    dot zero_float (reverse (drop (suc newest) ring) ++ reverse (take (suc newest) ring)) taps

-- the second run from its start on
abbrev second_forwards : Way
second_forwards ring newest taps = dot zero_float (reverse (take (suc newest) ring) ++ drop (suc newest) ring) taps

-- a cell further: as if the desk were stepped before the ears are read
abbrev stepped_first : Way
stepped_first ring newest taps = dot zero_float (unrolled (suc (suc newest)) ring) taps

silent : (runs_apart three 0 ones ≡ zero_float) × (oldest_first three 0 ones ≡ zero_float)
    × (runs_exchanged three 0 ones ≡ zero_float)
    × (second_forwards three 0 ones ≡ zero_float) × (stepped_first three 0 ones ≡ zero_float)
unfolding three ones add mul sum round size span climb units odd
silent = (refl, refl, refl, refl, refl)

runs_apart_lem : Convolves runs_apart → ⊥
runs_apart_lem = not_silent runs_apart silent.0

oldest_first_lem : Convolves oldest_first → ⊥
oldest_first_lem = not_silent oldest_first silent.1

runs_exchanged_lem : Convolves runs_exchanged → ⊥
runs_exchanged_lem = not_silent runs_exchanged silent.2

second_forwards_lem : Convolves second_forwards → ⊥
second_forwards_lem = not_silent second_forwards silent.3

stepped_first_lem : Convolves stepped_first → ⊥
stepped_first_lem = not_silent stepped_first silent.4

-- ---- how many cells the first run has: in a ring that has some the newest is one of them, and there are no more than
-- the ring has

first_run_empty : (newest n : ℕ) → min (suc newest) (suc n) ≡ 0 → ⊥
first_run_empty newest n e = omega arith

first_run_too_long : (newest n : ℕ) → min (suc newest) n ≡ suc n → ⊥
first_run_too_long newest n e = omega arith
