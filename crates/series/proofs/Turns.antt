-- What whole turns and the opposite angle make of the defined values, and which they are at 90 times a whole number.
-- All exact: at a multiple of 90 by the exact values, elsewhere because the reduced angles are the same or opposite
-- (180, the one angle whose opposite is reduced to itself, is a multiple of 90). Assumes nothing.
use Rattle.std.specs.Prelude.{◌≡◌, ◌⊎◌, ◌+◌, ◌*◌, ◌-◌, ◌/◌, ◌%◌, ◌≤◌, ◌<◌}
use Rattle.lists.specs.Prelude.{refl, sym, ap, ◌∙◌, subst, inl, inr, Bool, cond, ℕ, mul-one, mul_assoc, mul-div_cancel}
use Rattle.lists.specs.Prelude.{le_dest, le_of_lt, add_comm, add-mul, zero-mul, zero-mod, mul-pos, mul-le-mul_right}
use Rattle.lists.specs.Prelude.{mul-lt-mul_of_pos_right, eq_of_mul-eq-mul_right, mul-mod_left, arith, T, eqb→eq, lit<}
use Rattle.lists.specs.Prelude.{eq-eqb}
use Rattle.fractions.specs.Fraction.{Fraction, fraction, whole, opposite, ◌⊕◌, Same}
use Rattle.fractions.proofs.Order.{same_refl}
use Rattle.series.specs.Sums.{Wave, sine, cosine}
use Rattle.series.specs.Angles.{turned, around, is_multiple, defined}
use Rattle.series.proofs.Terms.{mirrored}
use Rattle.series.proofs.Reduction.{four, quarters_times, turned_turns, turned_less, turned_same, turned_apart}
use Rattle.series.proofs.Reduction.{by_side, turned_opposite}
use Rattle.series.proofs.Places.{wave, wave_same, wave_opposite, exact_at, place, defined_place, by_multiple}

-- ---- whole turns, and another name of the same angle

-- two names of one place: r / o and s / o'
module _ (r o s o' : ℕ) (O : 0 < o) (O' : 0 < o') (e : r * o' ≡ s * o) where
  around_same : Same (around r o) (around s o')
  around_same =
      by_side (λ (x : Fraction). Same x (around s o')) r o
      (λ h. by_side (λ (y : Fraction). Same (fraction r 0 o) y) s o' (λ k. omega arith)
      (λ k. absurd (apart r o s o' O e h k)))
      (λ h. by_side (λ (y : Fraction). Same (fraction r (360 * o) o) y) s o'
      (λ k. absurd (apart s o' r o O' (sym e) k h)) (λ k. omega arith))
    where
      apart : (r o s o' : ℕ) → 0 < o → r * o' ≡ s * o → r ≤ 180 * o → 180 * o' < s → ⊥
      apart r o s o' O e h k = omega (arith, mul-le-mul_right o' h, mul-lt-mul_of_pos_right k O)

  also_multiple : (k : ℕ) → r ≡ k * (90 * o) → s % (90 * o') ≡ 0
  also_multiple k f = ap (λ (t : ℕ). t % (90 * o'))
      (eq_of_mul-eq-mul_right o O s (k * (90 * o')) (omega (arith, ap (λ (t : ℕ). t * o') f)))
      ∙ mul-mod_left k (90 * o')

  same_multiple : (k l : ℕ) → r ≡ k * (90 * o) → s ≡ l * (90 * o') → k ≡ l
  same_multiple k l f g = eq_of_mul-eq-mul_right (90 * (o * o')) (mul-pos {m = 90} (lit< tt) (mul-pos O O')) k l
      (omega (arith, ap (λ (t : ℕ). t * o') f, ap (λ (t : ℕ). t * o) g))

place_same : (w : Wave) (r o s o' : ℕ) → 0 < o → 0 < o' → r < 360 * o → s < 360 * o' → r * o' ≡ s * o
    → Same (place r o w) (place s o' w)
place_same w r o s o' O O' h k e =
    by_multiple (λ (f : Wave → Fraction). Same (f w) (place s o' w)) r o O h
    (λ i a p. by_multiple (λ (g : Wave → Fraction). Same (exact_at w i) (g w)) s o' O' k
    (λ j b q. subst (λ (n : ℕ). Same (exact_at w i) (exact_at w n)) (same_multiple r o s o' O O' e i j p q)
    (same_refl (exact_at w i)))
    (λ n. absurd (n (also_multiple r o s o' O O' e i p))))
    (λ n. by_multiple (λ (g : Wave → Fraction). Same (wave w (around r o)) (g w)) s o' O' k
    (λ j b q. absurd (n (also_multiple s o' r o O' O (sym e) j q)))
    (λ m. wave_same w (around r o) (around s o') (around_same r o s o' O O' e)))

module _ (w : Wave) (d e : Fraction) (D : 0 < d.over) (E : 0 < e.over) where
  same_place : turned d * e.over ≡ turned e * d.over → Same (defined w d) (defined w e)
  same_place h = rw (defined_place w d, defined_place w e)
      (place_same w (turned d) d.over (turned e) e.over D E (turned_less d D) (turned_less e E) h)

  pub defined_same : Same d e → Same (defined w d) (defined w e)
  defined_same h = same_place (turned_same d e D E h)

  -- angles that are i turns and j turns away from each other
  pub defined_turns : (i j : ℕ) → Same (d ⊕ whole (360 * i)) (e ⊕ whole (360 * j)) → Same (defined w d) (defined w e)
  defined_turns i j h = same_place (turned_apart d e D E i j h)

-- ---- the opposite angle: its place and the angle's make up a turn, or both are 0

-- at i quarter turns, and at as many as are left of a turn
exact_opposite : (w : Wave) (i : ℕ) → i < 4 → Same (exact_at w ((4 - i) % 4)) (mirrored w (exact_at w i))
exact_opposite sine =
    four (λ (i : ℕ). Same (exact_at sine ((4 - i) % 4)) (opposite (exact_at sine i))) refl refl refl refl
exact_opposite cosine = four (λ (i : ℕ). Same (exact_at cosine ((4 - i) % 4)) (exact_at cosine i)) refl refl refl refl

module _ (r s o : ℕ) (O : 0 < o) (t : r + s ≡ 360 * o) where
  rest : (i j : ℕ) → r ≡ i * (90 * o) → s ≡ j * (90 * o) → i + j ≡ 4
  rest i j e f =
      eq_of_mul-eq-mul_right (90 * o) (mul-pos {m = 90} (lit< tt) O) (i + j) 4 (omega (arith, add-mul i j (90 * o)))

  rest_multiple : (i : ℕ) → i < 4 → r ≡ i * (90 * o) → s % (90 * o) ≡ 0
  rest_multiple i h e =
      let (j, f) = le_dest (le_of_lt h) in
      ap (λ (n : ℕ). n % (90 * o)) (left i j e f) ∙ mul-mod_left j (90 * o)
    where
      left : (i j : ℕ) → r ≡ i * (90 * o) → i + j ≡ 4 → s ≡ j * (90 * o)
      left i j e f = omega (arith, add-mul i j (90 * o), ap (λ (n : ℕ). n * (90 * o)) f)

  around_opposite : (r % (90 * o) ≡ 0 → ⊥) → Same (around s o) (opposite (around r o))
  around_opposite n =
      by_side (λ (y : Fraction). Same y (opposite (around r o))) s o
      (λ k. by_side (λ (x : Fraction). Same (fraction s 0 o) (opposite x)) r o
      (λ h. absurd (n (ap (λ (i : ℕ). i % (90 * o)) (omega arith) ∙ mul-mod_left 2 (90 * o))))
      (λ h. omega (arith, ap (λ (i : ℕ). i * o) t)))
      (λ k. by_side (λ (x : Fraction). Same (fraction s (360 * o) o) (opposite x)) r o
      (λ h. omega (arith, ap (λ (i : ℕ). i * o) t)) (λ h. omega arith))

place_opposite : (w : Wave) (r s o : ℕ) → 0 < o → r < 360 * o → s < 360 * o → r + s ≡ 360 * o
    → Same (place s o w) (mirrored w (place r o w))
place_opposite w r s o O h k t =
    by_multiple (λ (f : Wave → Fraction). Same (place s o w) (mirrored w (f w))) r o O h
    (λ i a p. by_multiple (λ (g : Wave → Fraction). Same (g w) (mirrored w (exact_at w i))) s o O k
    (λ j b q. subst (λ (n : ℕ). Same (exact_at w n) (mirrored w (exact_at w i))) (omega (arith, rest r s o O t i j p q))
    (exact_opposite w i a))
    (λ n. absurd (n (rest_multiple r s o O t i a p))))
    (λ n. by_multiple (λ (g : Wave → Fraction). Same (g w) (mirrored w (wave w (around r o)))) s o O k
    (λ j b q. absurd (n (rest_multiple s r o O (add_comm s r ∙ t) j b q)))
    (λ m. subst (λ (x : Fraction). Same (wave w (around s o)) x) (wave_opposite w (around r o))
    (wave_same w (around s o) (opposite (around r o)) (around_opposite r s o O t n))))

place_nought : (w : Wave) (o : ℕ) → 0 < o → Same (place 0 o w) (mirrored w (place 0 o w))
place_nought w o O =
    by_multiple (λ (f : Wave → Fraction). Same (f w) (mirrored w (f w))) 0 o O (omega arith)
    (λ i a p. subst (λ (n : ℕ). Same (exact_at w n) (mirrored w (exact_at w n))) (none i p)
    (exact_opposite w 0 (lit< tt))) (λ n. absurd (n (zero-mod (90 * o))))
  where
    none : (i : ℕ) → 0 ≡ i * (90 * o) → 0 ≡ i
    none i p = eq_of_mul-eq-mul_right (90 * o) (mul-pos {m = 90} (lit< tt) O) 0 i (zero-mul (90 * o) ∙ p)

pub defined_opposite : (w : Wave) (d : Fraction) → 0 < d.over
    → Same (defined w (opposite d)) (mirrored w (defined w d))
defined_opposite w d D = rw (defined_place w d, defined_place w (opposite d))
    (go (turned_opposite d D) (turned_less d D) (turned_less (opposite d) D))
  where
    go : {r s : ℕ} → (r + s ≡ 0) ⊎ (r + s ≡ 360 * d.over) → r < 360 * d.over → s < 360 * d.over
        → Same (place s d.over w) (mirrored w (place r d.over w))
    go {r} {s} (inr t) h k = place_opposite w r s d.over D h k t
    go {r} {s} (inl t) h k = let a : 0 ≡ r = omega arith in let b : 0 ≡ s = omega arith in
        subst (λ (n : ℕ). Same (place n d.over w) (mirrored w (place r d.over w))) b
        (subst (λ (n : ℕ). Same (place 0 d.over w) (mirrored w (place n d.over w))) a
        (place_nought w d.over D))

-- ---- at 90 times a whole number

turned_multiple : (d : Fraction) → 0 < d.over → (k i : ℕ) → Same d (fraction (90 * k) (90 * i) 1)
    → turned d ≡ (k + 3 * i) % 4 * (90 * d.over)
turned_multiple d D k i h =
    sym (mul-one (turned d)) ∙ turned_apart d (whole (90 * (k + 3 * i))) D (lit< tt) i 0 (omega arith)
    ∙ ap (λ (r : ℕ). r * d.over) (whole_place (k + 3 * i)) ∙ mul_assoc ((k + 3 * i) % 4) 90 d.over
  where
    whole_place : (k : ℕ) → turned (whole (90 * k)) ≡ k % 4 * 90
    whole_place k = unfold turned in (omega arith)

-- at 90 (k - i): 90 i less is 270 i more
pub defined_multiple : (w : Wave) (d : Fraction) → 0 < d.over → (k i : ℕ) → Same d (fraction (90 * k) (90 * i) 1)
    → defined w d ≡ exact_at w ((k + 3 * i) % 4)
unfolding place
defined_multiple w d D k i h =
    let o = d.over in
    let q = (k + 3 * i) % 4 in
    let N : 0 < 90 * o = mul-pos {m = 90} (lit< tt) D in
    defined_place w d ∙ ap (λ (r : ℕ). place r o w) (turned_multiple d D k i h)
    ∙ ap (λ (b : Bool). cond b (exact_at w (q * (90 * o) / (90 * o))) (wave w (around (q * (90 * o)) o)))
    (eq-eqb (q * (90 * o) % (90 * o)) 0 (mul-mod_left q (90 * o)))
    ∙ ap (exact_at w) (mul-div_cancel q N)

-- and nowhere else: what `is_multiple` accepts is 90 times a whole number
pub multiple_only : (d : Fraction) → 0 < d.over → T (is_multiple d)
    → (k : ℕ) × (i : ℕ) × Same d (fraction (90 * k) (90 * i) 1)
unfolding is_multiple
multiple_only d D h =
    let t = turned_turns d D in
    let o = d.over in
    let q = turned d / (90 * o) in (
      q + 4 * t.forth,
      4 * t.back,
      (omega (arith, quarters_times (turned d) o D (turned_less d D) (eqb→eq (turned d % (90 * o)) 0 h), t.round)),
    )
