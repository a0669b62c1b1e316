-- How large the program's numbers get, which is what its functions ask of each other. Assumes nothing.
use Rattle.std.specs.Prelude.{◌≡◌, ◌+◌, ◌-◌, ◌*◌, ◌^◌, ◌≤◌, ◌<◌}
use Rattle.lists.specs.Prelude.{sym, ap, subst, Bool, cond, ℕ, zero, suc, le_refl, le_trans, le_of_eq, mul-pos}
use Rattle.lists.specs.Prelude.{mul_comm, mul-le-mul, mul-le-mul_left, mul-le-mul_right, div-le_of_le-mul, arith, lit≤}
use Rattle.lists.specs.Prelude.{shr_mono, le-leb, lt-leb}
use Rattle.lists.proofs.Tests.{by_at_most}
use Rattle.angles.specs.Computed.{one, turn, half, degree_units, short, times, radian_units, nesting, nest}
use Rattle.angles.specs.Computed.{outermost}
use Rattle.angles.specs.Computed.{from_one}

-- ---- the nestings

pub nest_most : (y j n : ℕ) → nest y j n ≤ one
unfolding nest
nest_most y j zero = le_refl one
nest_most y j (suc n) = omega arith

-- from j = 2 on the divisor is 12 at least, and a nesting 1 at most
pub twelve : (j : ℕ) → 2 ≤ j → 12 ≤ (j + 1) * (j + 2)
twelve j h = mul-le-mul {n₁ = 3} {m₁ = 4} {n₂ = j + 1} {m₂ = j + 2} (omega arith) (omega arith)

times_most : (y f : ℕ) → f ≤ one → times y f ≤ y
unfolding times
times_most y f h = div-le_of_le-mul one (le_trans (mul-le-mul_left y h) (le_of_eq (mul_comm y one)))

pub nesting_most : (y f j : ℕ) → y ≤ 12 * one → f ≤ one → 2 ≤ j → nesting y f j ≤ one
unfolding nesting
nesting_most y f j h k l =
    div-le_of_le-mul ((j + 1) * (j + 2)) (le_trans (le_trans (times_most y f k) h) (mul-le-mul_right one (twelve j l)))

pub divisor_positive : (j : ℕ) → 0 < (j + 1) * (j + 2)
divisor_positive j = mul-pos {m = j + 1} {n = j + 2} (omega arith) (omega arith)

-- ---- the shorter way from 0

pub short_low : (a : ℕ) → a ≤ half → short a ≡ a
unfolding short
short_low a h = ap (λ (b : Bool). cond b a (turn - a)) (le-leb a half h)

pub short_high : (a : ℕ) → half < a → short a ≡ turn - a
unfolding short
short_high a h = ap (λ (b : Bool). cond b a (turn - a)) (lt-leb a half h)

short_most : (a : ℕ) → short a ≤ half
unfolding short
short_most a = by_at_most (λ (r : ℕ). r ≤ half) a half (λ l. l) (λ h. omega arith)

-- ---- x, half a turn at most, and its square

-- a little more than half a turn, in units of 2 ^ -60
abbrev pub largest : ℕ
largest = 3625000000000000000

pub radians_most : (r : ℕ) → r ≤ half → radian_units r ≤ largest
unfolding radian_units times
radians_most r h = le_trans (shr_mono 60 (mul-le-mul_right degree_units h)) (lit≤ tt)

pub square_most : (x : ℕ) → x * x ≤ 12 * 2 ^ 120 → times x x ≤ 12 * one
unfolding times
square_most x h = omega arith

-- ---- the outermost nestings, and what is left of 1

module _ (x : ℕ) (h : x ≤ largest) where
  pub square_room : x * x ≤ 12 * 2 ^ 120
  square_room = omega (arith, mul-le-mul h h)

  -- y is x squared
  y_most : times x x ≤ 11400000000000000000
  unfolding times
  y_most = omega (arith, mul-le-mul h h)

  pub sine_rest_most : from_one (outermost x 25) ≤ one
  unfolding nesting
  sine_rest_most = omega (arith, times_most (times x x) (nest (times x x) 3 12) (nest_most (times x x) 3 12), y_most)

  pub sine_fits : times x (from_one (outermost x 25)) < 2 ^ 62 - 256
  sine_fits = omega (arith, times_most x (from_one (outermost x 25)) sine_rest_most)

  pub cosine_fits : from_one (outermost x 26) < 2 ^ 62 - 256
  unfolding nesting
  cosine_fits = omega (arith, times_most (times x x) (nest (times x x) 2 13) (nest_most (times x x) 2 13), y_most)

-- ---- the same of what the program has, at a place on the turn

module _ (a x : ℕ) (e : x ≡ radian_units (short a)) where
  x_most : x ≤ largest
  x_most = subst (λ (n : ℕ). n ≤ largest) (sym e) (radians_most (short a) (short_most a))

  pub outermost_room : x * x ≤ 12 * 2 ^ 120
  outermost_room = square_room x x_most

  pub sine_room : (r : ℕ) → r ≡ from_one (outermost x 25) → (x * r < 2 ^ 124) × (times x r < 2 ^ 62 - 256)
  sine_room r f = rw f (omega (arith, mul-le-mul x_most (sine_rest_most x x_most)), sine_fits x x_most)

  pub cosine_room : (r : ℕ) → r ≡ from_one (outermost x 26) → r < 2 ^ 62 - 256
  cosine_room r f = subst (λ (n : ℕ). n < 2 ^ 62 - 256) (sym f) (cosine_fits x x_most)
