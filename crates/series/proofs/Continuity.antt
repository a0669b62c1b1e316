-- How far apart the values at two angles are: |a - b| / 4 + 2 ^ -52 at most, wherever the angles lie. Between -180 and
-- 180 that is how steep the sums are; from one side of 180 to the other the way goes over the sums at 180 and -180,
-- which are 2 ^ -53 apart at most. Assumes nothing.
use Rattle.std.specs.Prelude.{◌≡◌, ◌+◌, ◌*◌, ◌^◌, ◌≤◌, ◌<◌}
use Rattle.lists.specs.Prelude.{sym, ap, ◌∙◌, subst, ℕ, le_of_eq, le_of_lt, le_intro, le_dest, mul-pos, mul_comm}
use Rattle.lists.specs.Prelude.{mul-le-mul_left, mul-le-mul_right, arith, lit≤, lit<}
use Rattle.fractions.specs.Fraction.{Fraction, fraction, whole, opposite, Within}
use Rattle.fractions.proofs.Ring.{ring}
use Rattle.fractions.proofs.Order.{same_refl}
use Rattle.fractions.proofs.Close.{Above, Close, Size, size_opposite, close_sym, close_opposite, close_same, close_unit}
use Rattle.fractions.proofs.Close.{close_trans}
use Rattle.fractions.proofs.Within.{within_close, within_computed}
use Rattle.series.specs.Sums.{factorial, power, term, sine_sum, cosine_sum, Wave, sine, cosine}
use Rattle.series.specs.Angles.{turned, around, reduced, radians, defined}
use Rattle.series.proofs.Sums.{half, parts, parts_pos, sum_close}
use Rattle.series.proofs.Reduction.{turned_less, reduced_around, by_side, low_size, high_size, Near, beside}
use Rattle.series.proofs.Reduction.{ahead, behind, turned_near}
use Rattle.series.proofs.Places.{radians_is, radians_half, wave, defined_sum}

-- ---- between -180 and 180: |S(a) - S(b)| ≤ |a - b| / 4, and so for C

-- H / Q times
times_above : {W E : ℕ} {a b : Fraction} (H Q : ℕ) → Close W a b E → Above (Q * W)
    (fraction (a.plus * H) (a.minus * H) (a.over * Q)) (fraction (b.plus * H) (b.minus * H) (b.over * Q)) (H * E)
times_above H Q h = simp ring (omega (arith, simp ring at (mul-le-mul_right (H * (Q * Q)) h.above)))

radians_close : {W E : ℕ} (a b : Fraction) → Close W a b E → Close (180 * parts * W) (radians a) (radians b) (half * E)
radians_close a b h =
    let Q-pos : 0 < 180 * parts = mul-pos {m = 180} (lit< tt) parts_pos in
    rw (radians_is a, radians_is b)
    (record {
      first = mul-pos h.first Q-pos;
      second = mul-pos h.second Q-pos;
      above = times_above half (180 * parts) h;
      below = times_above half (180 * parts) (close_opposite h);
    })

-- 12 P / 180 is less than 1 / 4
steep_enough : 12 * half * 4 ≤ 180 * parts
unfolding half parts
steep_enough = lit≤ tt

degrees_close : (w : Wave) {W E : ℕ} {a b : Fraction} → 0 < W → Size 1 a 180 → Size 1 b 180 → Close W a b E
    → Close (4 * W) (wave w a) (wave w b) E
degrees_close w {W} {E} {a} {b} o h g c =
    let V-pos : 0 < 180 * parts * W = mul-pos (mul-pos {m = 180} (lit< tt) parts_pos) o in
    close_unit V-pos (enough half parts W E steep_enough)
    (sum_close w V-pos (radians_half a h) (radians_half b g) (radians_close a b c))
  where
    enough : (H P W E : ℕ) → 12 * H * 4 ≤ 180 * P → 12 * (H * E) * (4 * W) ≤ E * (180 * P * W)
    enough H P W E h = omega (arith, mul-le-mul_right (E * W) h)

-- ---- from one side of 180 to the other: |S(a) - S(b)| ≤ E / (4 W) + 2 ^ -53 where 180 - a and b + 180 make up E / W

around_half : (w : Wave) → Within 53 (wave w (whole 180)) (wave w (opposite (whole 180)))
unfolding sine_sum cosine_sum term power factorial radians
around_half sine = within_computed 53 _ _ tt
around_half cosine = within_computed 53 _ _ tt

-- r / o is below 180 by t / (o o')
to_half : (r o o' t W : ℕ) → 0 < o → r * o' + t ≡ 180 * (o * o')
    → Close (W * (o * o')) (fraction r 0 o) (whole 180) (t * W)
to_half r o o' t W O e = record {
  first = O;
  second = lit< tt;
  above = omega (arith, mul-le-mul_right o (mul-le-mul_right W (le_intro (r * o') t e)));
  below = omega (arith, ap (λ (n : ℕ). n * (W * o)) e);
}

-- s / o - 360 is above -180 by t / (o o')
from_half : (s o o' t W : ℕ) → 0 < o → s ≤ 360 * o → s * o' ≡ 180 * (o * o') + t
    → Close (W * (o * o')) (opposite (whole 180)) (fraction s (360 * o) o) (t * W)
from_half s o o' t W O l e =
    let (u, f) = le_dest l in
    close_same (opposite (whole 180)) (fraction s (360 * o) o) (lit< tt) O (same_refl (opposite (whole 180)))
    (rest_nat s o u f)
    (close_opposite (close_sym (to_half u o o' t W O (omega (arith, ap (λ (n : ℕ). n * o') f)))))
  where
    rest_nat : (s o u : ℕ) → s + u ≡ 360 * o → 0 * o + 360 * o * o ≡ s * o + u * o
    rest_nat s o u f = omega (arith, ap (λ (n : ℕ). n * o) f)

steps_nat : (K t u W E n : ℕ) → K * K * W * (t * W + u * W) ≤ K * K * W * (E * n)
    → (K * (t * W) + 4 * (W * n) + K * (u * W)) * (K * 4 * W) ≤ (K * E + 4 * W) * (K * (4 * (W * n)))
steps_nat K t u W E n h = let h' = simp ring at h in simp ring (omega arith)

unit_nat : (K e U : ℕ) → e * (K * (4 * U)) ≤ K * e * (4 * U)
unit_nat K e U = le_of_eq (simp ring)

module _ (w : Wave) (r o s o' W E : ℕ) (O : 0 < o) (O' : 0 < o') (w-pos : 0 < W) where
  across : r ≤ 180 * o → 180 * o' < s → s < 360 * o' → s * o * W ≤ r * o' * W + E * (o * o')
      → Close (2 ^ 55 * W) (wave w (fraction r 0 o)) (wave w (fraction s (360 * o') o')) (2 ^ 53 * E + 4 * W)
  across h l m g =
      let n = o * o' in
      let (t, e) = le_dest {n = r * o'} {m = 180 * n} (omega (arith, mul-le-mul_right o' h)) in
      let (u, f) = le_dest {n = 180 * n} {m = s * o} (omega (arith, mul-le-mul_right o (le_of_lt l))) in
      go (o * o') t u (mul-pos O O') e f (to_half r o o' t W O e)
      (subst (λ (n : ℕ). Close (W * n) (opposite (whole 180)) (fraction s (360 * o') o') (u * W)) (mul_comm o' o)
      (from_half s o' o u W O' (le_of_lt m) (sym (ap (λ (n : ℕ). 180 * n + u) (mul_comm o' o) ∙ f)))) g
    where
      go : (n t u : ℕ) → 0 < n → r * o' + t ≡ 180 * n → 180 * n + u ≡ s * o
          → Close (W * n) (fraction r 0 o) (whole 180) (t * W)
          → Close (W * n) (opposite (whole 180)) (fraction s (360 * o') o') (u * W)
          → s * o * W ≤ r * o' * W + E * n → Close (2 ^ 55 * W) (wave w (fraction r 0 o))
          (wave w (fraction s (360 * o') o')) (2 ^ 53 * E + 4 * W)
      go n t u N e f a b g =
          let U = W * n in
          let K = 2 ^ 53 in
          let U_pos : 0 < U = mul-pos w-pos N in
          let V-pos : 0 < 4 * U = mul-pos {m = 4} (lit< tt) U_pos in
          let full : Size 1 (whole 180) 180 = record { above = lit≤ tt; below = lit≤ tt } in
          let first = close_unit V-pos (unit_nat K (t * W) U) (degrees_close w U_pos (low_size r o h) full a) in
          let last = close_unit V-pos (unit_nat K (u * W) U)
          (degrees_close w U_pos (size_opposite full) (high_size s o' l m) b) in
          let middle : Close (K * (4 * U)) (wave w (whole 180)) (wave w (opposite (whole 180))) (4 * U) = close_unit
          (lit< tt) (omega arith) (within_close (around_half w)) in
          close_unit (mul-pos {m = K} (lit< tt) V-pos)
          (steps_nat K t u W E n
          (mul-le-mul_left (K * K * W) (omega (arith, ap (λ (x : ℕ). x * W) e, ap (λ (x : ℕ). x * W) f))))
          (close_trans (close_trans first middle) last)

-- ---- from any place to any other that is E / W away at most, one way round or the other

near_sym : {W E n A B : ℕ} → Near W E n A B → Near W E n B A
near_sym (beside h k) = beside k h
near_sym (ahead h) = behind h
near_sym (behind h) = ahead h

ahead_nat : (W E n A B : ℕ) → B * W ≤ (A + 180 * n) * W → A * W + 360 * n * W ≤ B * W + E * n
    → (A * W ≤ B * W + E * n) × (B * W ≤ A * W + E * n)
ahead_nat W E n A B h k = (omega arith, omega arith)

-- on one side of 180 two places are half a turn apart at most, and the way between them is the shorter one
one_side : {W E n A B : ℕ} → A ≤ B + 180 * n → B ≤ A + 180 * n → Near W E n A B
    → (A * W ≤ B * W + E * n) × (B * W ≤ A * W + E * n)
one_side h k (beside i j) = (i, j)
one_side {W} {E} {n} {A} {B} h k (ahead i) = ahead_nat W E n A B (mul-le-mul_right W k) i
one_side {W} {E} {n} {A} {B} h k (behind i) = let p = ahead_nat W E n B A (mul-le-mul_right W h) i in (p.1, p.0)

module _ (w : Wave) (W E : ℕ) (w-pos : 0 < W) where
  straight : {a b : Fraction} → Size 1 a 180 → Size 1 b 180 → Close W a b E
      → Close (2 ^ 55 * W) (wave w a) (wave w b) (2 ^ 53 * E + 4 * W)
  straight h k c = close_unit (mul-pos {m = 4} (lit< tt) w-pos) (omega arith) (degrees_close w w-pos h k c)

  module _ (r o s o' : ℕ) (O : 0 < o) (O' : 0 < o') where
    both_low : r ≤ 180 * o → s ≤ 180 * o' → Near W E (o * o') (r * o') (s * o)
        → Close W (fraction r 0 o) (fraction s 0 o') E
    both_low h k c =
        let p = one_side (low (r * o') (s * o) (o * o') (omega (arith, mul-le-mul_right o' h)))
        (low (s * o) (r * o') (o * o') (omega (arith, mul-le-mul_right o k))) c in
        record { first = O; second = O'; above = omega (arith, p.0); below = omega (arith, p.1) }
      where
        low : (a b n : ℕ) → a ≤ 180 * n → a ≤ b + 180 * n
        low a b n h = omega arith

    both_high : 180 * o < r → 180 * o' < s → r < 360 * o → s < 360 * o' → Near W E (o * o') (r * o') (s * o)
        → Close W (fraction r (360 * o) o) (fraction s (360 * o') o') E
    both_high h k l m c =
        let n = o * o' in
        let p = one_side (high (r * o') (s * o) n (omega (arith, mul-le-mul_right o' l))
        (omega (arith, mul-le-mul_right o k)))
        (high (s * o) (r * o') n (omega (arith, mul-le-mul_right o m))
        (omega (arith, mul-le-mul_right o' h))) c in
        record { first = O; second = O'; above = omega (arith, p.0); below = omega (arith, p.1) }
      where
        high : (a b n : ℕ) → a ≤ 360 * n → 180 * n ≤ b → a ≤ b + 180 * n
        high a b n h k = omega arith

    low_high : r ≤ 180 * o → 180 * o' < s → s < 360 * o' → Near W E (o * o') (r * o') (s * o)
        → Close (2 ^ 55 * W) (wave w (fraction r 0 o)) (wave w (fraction s (360 * o') o')) (2 ^ 53 * E + 4 * W)
    low_high h l m (beside i j) = across w r o s o' W E O O' w-pos h l m j
    low_high h l m (behind i) = across w r o s o' W E O O' w-pos h l m (omega arith)
    low_high h l m (ahead i) =
        straight (low_size r o h) (high_size s o' l m)
        (record {
          first = O;
          second = O';
          above = omega (arith, i);
          below = omega (arith, mul-le-mul_right (o * W) (le_of_lt m));
        })

  places : (r o s o' : ℕ) → 0 < o → 0 < o' → r < 360 * o → s < 360 * o' → Near W E (o * o') (r * o') (s * o)
      → Close (2 ^ 55 * W) (wave w (around r o)) (wave w (around s o')) (2 ^ 53 * E + 4 * W)
  places r o s o' O O' l m c =
      by_side (λ (x : Fraction). Close (2 ^ 55 * W) (wave w x) (wave w (around s o')) (2 ^ 53 * E + 4 * W)) r o
      (λ h. by_side (λ (y : Fraction). Close (2 ^ 55 * W) (wave w (fraction r 0 o)) (wave w y) (2 ^ 53 * E + 4 * W)) s
      o'
      (λ k. straight (low_size r o h) (low_size s o' k) (both_low r o s o' O O' h k c))
      (λ k. low_high r o s o' O O' h k m c))
      (λ h. by_side (λ (y : Fraction). Close (2 ^ 55 * W) (wave w (fraction r (360 * o) o)) (wave w y)
      (2 ^ 53 * E + 4 * W)) s o'
      (λ k. close_sym
      (low_high s o' r o O' O k h l
      (subst (λ (n : ℕ). Near W E n (s * o) (r * o')) (mul_comm o o') (near_sym c))))
      (λ k. straight (high_size r o h l) (high_size s o' k m) (both_high r o s o' O O' h k l m c)))

-- the sums at the reduced angles of two angles: |a - b| / 4 + 2 ^ -53
pub reduced_close : (w : Wave) {W E : ℕ} {a b : Fraction} → 0 < W → Close W a b E
    → Close (2 ^ 55 * W) (wave w (reduced a)) (wave w (reduced b)) (2 ^ 53 * E + 4 * W)
reduced_close w {W} {E} {a} {b} o c =
    rw (reduced_around a, reduced_around b)
    (places w W E o (turned a) a.over (turned b) b.over c.first c.second (turned_less a c.first)
    (turned_less b c.second) (turned_near a b c))

-- THE law for callers: the values at two angles are |a - b| / 4 + 2 ^ -52 apart at most, wherever the angles lie:
-- across a multiple of 90, across 180, turns away
pub defined_close : (w : Wave) {W E : ℕ} {a b : Fraction} → 0 < W → Close W a b E
    → Close (2 ^ 54 * W) (defined w a) (defined w b) (2 ^ 52 * E + 4 * W)
defined_close w {W} {E} {a} {b} o c =
    let U = 2 ^ 55 * W in
    let U_pos : 0 < U = mul-pos {m = 2 ^ 55} (lit< tt) o in
    let first : Close U (defined w a) (wave w (reduced a)) (2 * W) = close_unit (lit< tt) (omega arith)
    (within_close (defined_sum w a c.first)) in
    let last : Close U (wave w (reduced b)) (defined w b) (2 * W) = close_unit (lit< tt) (omega arith)
    (close_sym (within_close (defined_sum w b c.second))) in
    close_unit U_pos (omega arith) (close_trans (close_trans first (reduced_close w o c)) last)
