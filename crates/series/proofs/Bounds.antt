-- How large a polynomial gets, how steep, and how far below 0: each law turns one computed number into a bound at every
-- fraction x / (k b) of size a / b at most. Assumes nothing.
use Rattle.std.specs.Prelude.{◌∷◌, ◌+◌, ◌*◌, ◌-◌, ◌≤◌}
use Rattle.lists.specs.Prelude.{subst, List, [], ℕ, zero, suc, le_dest, mul-le-mul_left, mul-le-mul_right, arith}
use Rattle.series.proofs.Wholes.{Whole, ◌⊞◌, ◌⊟◌, ◌⊠◌, ◌·◌, size, Bounded, Equal, times_scale, bounded_size}
use Rattle.series.proofs.Wholes.{bounded_scale, bounded_equal, bounded_times, equal_scale, difference_times}
use Rattle.series.proofs.Wholes.{difference_common}
use Rattle.series.proofs.Polynomials.{power_of, power_times, value}

-- ---- how large

-- the polynomial with each coefficient's size, at a / b
unfoldable pub most : ℕ → List Whole → ℕ → ℕ → ℕ
most zero cs a b = 0
most (suc m) [] a b = 0
most (suc m) (c ∷ cs) a b = size c * power_of b (suc m) + a * most m cs a b

size_step : (a b k K B M E : ℕ) (c y : Whole) → Bounded c M → Bounded y (k * a * (K * E))
    → Bounded ((k * b * (K * B)) · c ⊞ y) (k * K * (M * (b * B) + a * E))
size_step a b k K B M E c y h g = omega (arith, bounded_scale (k * b * (K * B)) c M h)

pub value_size : (a b k m : ℕ) (cs : List Whole) (x : Whole) → Bounded x (k * a)
    → Bounded (value m cs x (k * b)) (power_of k m * most m cs a b)
unfolding value most power_of
value_size a b k zero cs x h = omega arith
value_size a b k (suc m) [] x h = omega arith
value_size a b k (suc m) (c ∷ cs) x h =
    rw (power_times k b m)
    (size_step a b k (power_of k m) (power_of b m) (size c) (most m cs a b) c (x ⊠ value m cs x (k * b))
    (bounded_size c)
    (bounded_times x (value m cs x (k * b)) (k * a) (power_of k m * most m cs a b) h (value_size a b k m cs x h)))

-- ---- how steep

-- the derivative with each coefficient's size, at a / b
unfoldable pub steepest : ℕ → List Whole → ℕ → ℕ → ℕ
steepest zero cs a b = 0
steepest (suc m) [] a b = 0
steepest (suc m) (c ∷ cs) a b = most m cs a b + a * steepest m cs a b

steep_step : (a k K E L t : ℕ) (w u v : Whole) → Equal w (u ⊞ v) → Bounded u (t * (K * E))
    → Bounded (k · v) (k * a * (t * (K * L))) → Bounded (k · w) (t * (k * K * (E + a * L)))
steep_step a k K E L t w u v q h g =
    bounded_equal (k · w) (k · (u ⊞ v)) (t * (k * K * (E + a * L))) (equal_scale k w (u ⊞ v) q)
    (omega (arith, bounded_scale k u (t * (K * E)) h))

pub value_steep : (a b k t m : ℕ) (cs : List Whole) (x y : Whole) → Bounded x (k * a) → Bounded y (k * a)
    → Bounded (x ⊟ y) t
    → Bounded (k · (value m cs x (k * b) ⊟ value m cs y (k * b))) (t * (power_of k m * steepest m cs a b))
unfolding value steepest power_of
value_steep a b k t zero cs x y h g s = omega arith
value_steep a b k t (suc m) [] x y h g s = omega arith
value_steep a b k t (suc m) (c ∷ cs) x y h g s =
    let f : Whole = value m cs x (k * b) in
    let e : Whole = value m cs y (k * b) in
    let z : Whole = (k * b * power_of (k * b) m) · c in
    steep_step a k (power_of k m) (most m cs a b) (steepest m cs a b) t (z ⊞ x ⊠ f ⊟ (z ⊞ y ⊠ e)) ((x ⊟ y) ⊠ f)
    (y ⊠ (f ⊟ e))
    (difference_common z (x ⊠ f) (y ⊠ e) ((x ⊟ y) ⊠ f ⊞ y ⊠ (f ⊟ e)) (difference_times x y f e))
    (bounded_times (x ⊟ y) f t (power_of k m * most m cs a b) s (value_size a b k m cs x h))
    (rw (times_scale k y (f ⊟ e)) at
    (bounded_times y (k · (f ⊟ e)) (k * a) (t * (power_of k m * steepest m cs a b)) g
    (value_steep a b k t m cs x y h g s)))

-- ---- how far below 0, from 0 to a / b

-- at each step what is left of a times the last number after the coefficient
unfoldable pub shortfall : ℕ → List Whole → ℕ → ℕ → ℕ
shortfall zero cs a b = 0
shortfall (suc m) [] a b = 0
shortfall (suc m) (c ∷ cs) a b = c.minus * power_of b (suc m) + a * shortfall m cs a b - c.plus * power_of b (suc m)

short_step : (a b k K B w u s t : ℕ) (c e : Whole) → u ≤ k * a → e.minus ≤ e.plus + K * s
    → c.minus * (b * B) + a * s ≤ c.plus * (b * B) + t
    → ((k * b * (K * B)) · c ⊞ record { plus = w + u; minus = w } ⊠ e).minus
    ≤ ((k * b * (K * B)) · c ⊞ record { plus = w + u; minus = w } ⊠ e).plus + k * K * t
short_step a b k K B w u s t c e h g l =
    omega (arith, mul-le-mul_left u g, mul-le-mul_right (K * s) h, mul-le-mul_left (k * K) l)

value_short_from : (a b k w u m : ℕ) (cs : List Whole) → u ≤ k * a
    → (value m cs (record { plus = w + u; minus = w }) (k * b)).minus ≤ (value m cs (record { plus = w + u; minus = w })
    (k * b)).plus + power_of k m * shortfall m cs a b
unfolding value shortfall power_of
value_short_from a b k w u zero cs h = omega arith
value_short_from a b k w u (suc m) [] h = omega arith
value_short_from a b k w u (suc m) (c ∷ cs) h =
    rw (power_times k b m)
    (short_step a b k (power_of k m) (power_of b m) w u (shortfall m cs a b)
    (c.minus * (b * power_of b m) + a * shortfall m cs a b - c.plus * (b * power_of b m)) c
    (value m cs (record { plus = w + u; minus = w }) (k * b)) h (value_short_from a b k w u m cs h) (omega arith))

pub value_short : (a b k m : ℕ) (cs : List Whole) (x : Whole) → x.minus ≤ x.plus → x.plus ≤ x.minus + k * a
    → (value m cs x (k * b)).minus ≤ (value m cs x (k * b)).plus + power_of k m * shortfall m cs a b
value_short a b k m cs x l h =
    let (u, e) = le_dest l in
    subst (λ (t : ℕ). (value m cs (record { plus = t; minus = x.minus }) (k * b)).minus ≤ (value m cs
    (record { plus = t; minus = x.minus }) (k * b)).plus + power_of k m * shortfall m cs a b) e
    (value_short_from a b k x.minus u m cs (omega arith))
