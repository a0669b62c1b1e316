-- The defined values from the place that an angle is turned to, at a multiple of 90 and off it. The exact values are 2
-- ^ -54 at most away from the sums in whose stead they stand, so that what holds of the sums at the reduced angle holds
-- of the defined values but for that; and the sum of their squares is 1, as that of the sums is up to 2 ^ -50. Assumes
-- nothing.
use Rattle.std.specs.Prelude.{◌≡◌, ◌∷◌, ◌*◌, ◌/◌, ◌%◌, ◌≤◌, ◌<◌}
use Rattle.lists.specs.Prelude.{refl, sym, subst, Bool, cond, [], ℕ, le_refl, mul-pos, mul-le-mul_right, arith, eqb}
use Rattle.lists.specs.Prelude.{lit≤, lit<, get_or, eqb-true, eqb-false}
use Rattle.lists.proofs.Tests.{by_test}
use Rattle.fractions.specs.Fraction.{Fraction, fraction, whole, opposite, square, ◌⊕◌, Same, Within}
use Rattle.fractions.proofs.Order.{same_refl, same_sym, same_mul}
use Rattle.fractions.proofs.Restate.{equal, opposite-⊗}
use Rattle.fractions.proofs.Close.{Size}
use Rattle.fractions.proofs.Within.{within_same, within_refl, within_computed}
use Rattle.series.specs.Sums.{factorial, power, term, sine_sum, cosine_sum, Wave, sine, cosine, sum}
use Rattle.series.specs.Angles.{turned, around, reduced, degree, radians, is_multiple, quarters, exact, defined}
use Rattle.series.proofs.Terms.{sum_same, sum_number, mirrored, sum_opposite}
use Rattle.series.proofs.Sums.{half, quarter, parts, Half, sum_squares_lem}
use Rattle.series.proofs.Reduction.{four, quarters_few, quarters_times, turned_less, reduced_around, by_side}
use Rattle.series.proofs.Reduction.{around_size, around_pos}

-- ---- degrees as radians

pub radians_is : (d : Fraction) → radians d ≡ fraction (d.plus * half) (d.minus * half) (d.over * (180 * parts))
unfolding radians half parts
radians_is d = equal (omega arith) (omega arith) refl

radians_same : (d e : Fraction) → Same d e → Same (radians d) (radians e)
unfolding radians
radians_same d e h = same_mul d e degree degree h (same_refl degree)

radians_opposite : (d : Fraction) → radians (opposite d) ≡ opposite (radians d)
unfolding radians
radians_opposite d = opposite-⊗ d degree

pub radians_pos : (d : Fraction) → 0 < d.over → 0 < (radians d).over
unfolding radians
radians_pos d D = mul-pos D (lit< tt)

radians_size : (d : Fraction) {n q : ℕ} → n * half ≤ 180 * q → Size 1 d n → Size parts (radians d) q
radians_size d k h =
    let K = half * parts in
    rw (radians_is d)
    (omega (arith, mul-le-mul_right K h.above, mul-le-mul_right K h.below, mul-le-mul_right (d.over * parts) k))

pub radians_half : (d : Fraction) → Size 1 d 180 → Half (radians d)
radians_half d = radians_size d (le_refl (180 * half))

pub radians_quarter : (d : Fraction) → Size 1 d 90 → Size parts (radians d) quarter
radians_quarter d = radians_size d (unfold half quarter in (lit≤ tt))

-- a sum at d degrees
abbrev pub wave : Wave → Fraction → Fraction
wave w d = sum w (radians d)

pub wave_pos : (w : Wave) (d : Fraction) → 0 < d.over → 0 < (wave w d).over
wave_pos w d D = sum_number w (radians d) (radians_pos d D)

pub wave_same : (w : Wave) (d e : Fraction) → Same d e → Same (wave w d) (wave w e)
wave_same w d e h = sum_same w (radians d) (radians e) (radians_same d e h)

pub wave_opposite : (w : Wave) (d : Fraction) → wave w (opposite d) ≡ mirrored w (wave w d)
wave_opposite w d = rw (radians_opposite d) (sum_opposite w (radians d))

-- ---- the value at the place r / o, from 0 up to 360

abbrev pub exact_at : Wave → ℕ → Fraction
exact_at w k = get_or (exact w) k (whole 0)

unfoldable pub place : ℕ → ℕ → Wave → Fraction
place r o w = cond (eqb (r % (90 * o)) 0) (exact_at w (r / (90 * o))) (wave w (around r o))

pub defined_place : (w : Wave) (d : Fraction) → defined w d ≡ place (turned d) d.over w
unfolding defined is_multiple quarters place
defined_place w d = cc (reduced_around d)

-- what is to hold there of the two waves is shown at the multiples of 90 and off them
pub by_multiple : (P : (Wave → Fraction) → Type 0) (r o : ℕ) → 0 < o → r < 360 * o
    → ((k : ℕ) → k < 4 → r ≡ k * (90 * o) → P (λ w. exact_at w k))
    → ((r % (90 * o) ≡ 0 → ⊥) → P (λ w. wave w (around r o))) → P (place r o)
unfolding place
by_multiple P r o O h f g =
    let q = r / (90 * o) in
    by_test (λ (b : Bool). P (λ w. cond b (exact_at w q) (wave w (around r o)))) (eqb (r % (90 * o)) 0)
    (λ e. f q (quarters_few r o O h) (quarters_times r o O h (eqb-true _ 0 e))) (λ e. g (eqb-false _ 0 e))

-- ---- the exact values and the sums: computed at 0, 90, 180 and -90

abbrev right_angle : ℕ → Fraction
right_angle k = get_or (whole 0 ∷ whole 90 ∷ whole 180 ∷ opposite (whole 90) ∷ []) k (whole 0)

exact_within : (w : Wave) (k : ℕ) → k < 4 → Within 54 (exact_at w k) (wave w (right_angle k))
unfolding sine_sum cosine_sum term power factorial radians
exact_within sine =
    four (λ (k : ℕ). Within 54 (exact_at sine k) (wave sine (right_angle k))) (within_computed 54 _ _ tt)
    (within_computed 54 _ _ tt) (within_computed 54 _ _ tt) (within_computed 54 _ _ tt)
exact_within cosine =
    four (λ (k : ℕ). Within 54 (exact_at cosine k) (wave cosine (right_angle k))) (within_computed 54 _ _ tt)
    (within_computed 54 _ _ tt) (within_computed 54 _ _ tt) (within_computed 54 _ _ tt)

around_multiple : (o : ℕ) → 0 < o → (k : ℕ) → k < 4 → Same (around (k * (90 * o)) o) (right_angle k)
around_multiple o O =
    four (λ (k : ℕ). Same (around (k * (90 * o)) o) (right_angle k))
    (by_side (λ (x : Fraction). Same x (whole 0)) (0 * (90 * o)) o (λ l. omega arith) (λ l. omega arith))
    (by_side (λ (x : Fraction). Same x (whole 90)) (1 * (90 * o)) o (λ l. omega arith) (λ l. omega arith))
    (by_side (λ (x : Fraction). Same x (whole 180)) (2 * (90 * o)) o (λ l. omega arith) (λ l. omega arith))
    (by_side (λ (x : Fraction). Same x (opposite (whole 90))) (3 * (90 * o)) o (λ l. omega arith) (λ l. omega arith))

place_sum : (w : Wave) (r o : ℕ) → 0 < o → r < 360 * o → Within 54 (place r o w) (wave w (around r o))
place_sum w r o O h =
    let x = around r o in
    let X = wave_pos w x (around_pos r o O) in
    by_multiple (λ (f : Wave → Fraction). Within 54 (f w) (wave w x)) r o O h
    (λ k l e.
    let y = right_angle k in
    let f = exact_within w k l in
    within_same (exact_at w k) (wave w x) f.first X (same_refl (exact_at w k))
    (wave_same w y x (same_sym x y (subst (λ (s : ℕ). Same (around s o) y) (sym e) (around_multiple o O k l)))) f)
    (λ n. within_refl 54 (wave w x) X)

pub defined_sum : (w : Wave) (d : Fraction) → 0 < d.over → Within 54 (defined w d) (wave w (reduced d))
defined_sum w d D = rw (defined_place w d, reduced_around d) (place_sum w (turned d) d.over D (turned_less d D))

pub defined_number : (w : Wave) (d : Fraction) → 0 < d.over → 0 < (defined w d).over
defined_number w d D = (defined_sum w d D).first

-- ---- the sum of the squares

exact_squares : (k : ℕ) → k < 4 → Within 50 (square (exact_at sine k) ⊕ square (exact_at cosine k)) (whole 1)
exact_squares =
    four (λ (k : ℕ). Within 50 (square (exact_at sine k) ⊕ square (exact_at cosine k)) (whole 1))
    (within_computed 50 _ _ tt) (within_computed 50 _ _ tt) (within_computed 50 _ _ tt)
    (within_computed 50 _ _ tt)

pub defined_squares : (d : Fraction) → 0 < d.over → Within 50 (square (defined sine d) ⊕ square (defined cosine d))
    (whole 1)
defined_squares d D =
    let r = turned d in
    let o = d.over in
    let x = around r o in
    let l = turned_less d D in
    rw (defined_place sine d, defined_place cosine d)
    (by_multiple (λ (f : Wave → Fraction). Within 50 (square (f sine) ⊕ square (f cosine)) (whole 1)) r o D l
    (λ k h e. exact_squares k h)
    (λ n. sum_squares_lem (radians x) (radians_pos x (around_pos r o D)) (radians_half x (around_size r o l))))
