-- What a quarter turn more makes of the defined values: the sine becomes the cosine, and the cosine the opposite of the
-- sine, up to 2 ^ -51. First for the sums from -180 to 180, where the law of the sums around 0 serves in front, and
-- twice or three times over behind. Assumes nothing.
use Rattle.std.specs.Prelude.{◌≡◌, ◌+◌, ◌*◌, ◌^◌, ◌≤◌, ◌<◌}
use Rattle.lists.specs.Prelude.{refl, mul-pos, dec_le, arith, lit<, lit≤}
use Rattle.fractions.specs.Fraction.{Fraction, whole, opposite, ◌⊕◌, ◌⊖◌, Same, Within}
use Rattle.fractions.proofs.Order.{same_refl, same_trans}
use Rattle.fractions.proofs.Close.{Close, Size, close_sym, close_trans, close_opposite, close_same, close_wider}
use Rattle.fractions.proofs.Within.{within_close, counted_within, within_same}
use Rattle.series.specs.Sums.{Wave, sine, cosine, sum}
use Rattle.series.specs.Angles.{reduced, Reduces, radians, defined}
use Rattle.series.proofs.Terms.{sum_same}
use Rattle.series.proofs.Sums.{half, quarter, after, quarter_turn, sum_quarter}
use Rattle.series.proofs.Reduction.{reduces, reduced_pos, reduced_unique}
use Rattle.series.proofs.Places.{radians_is, radians_pos, radians_quarter, wave, wave_pos, wave_same}
use Rattle.series.proofs.Places.{wave_opposite, defined_sum}

-- ---- the sums, from -180 to 180

half_is : half ≡ 2 * quarter
unfolding half quarter
half_is = refl

radians_more : (a : Fraction) → Same (radians (whole 90 ⊕ a)) (quarter_turn ⊕ radians a)
radians_more a = rw (radians_is a, radians_is (whole 90 ⊕ a), half_is) (omega arith)

-- from -90 to 90, the angle c being named otherwise
front : (w : Wave) (a c : Fraction) → 0 < a.over → 0 < c.over → Size 1 a 90 → Same c (whole 90 ⊕ a)
    → Close (2 ^ 54) (wave w c) (after w (λ v. wave v a)) 1
front w a c A C h e =
    let q = sum_quarter (radians a) (radians_pos a A) (radians_quarter a h) w in
    within_close
    (within_same (wave w c) (after w (λ v. wave v a)) (wave_pos w c C) q.second
    (same_trans (wave w c) (wave w (whole 90 ⊕ a)) (sum w (quarter_turn ⊕ radians a))
    (wave_pos w (whole 90 ⊕ a) (mul-pos {m = 1} (lit< tt) A)) (wave_same w c (whole 90 ⊕ a) e)
    (sum_same w (radians (whole 90 ⊕ a)) (quarter_turn ⊕ radians a) (radians_more a)))
    (same_refl (after w (λ v. wave v a))) q)

-- from -180 to -90: -a is a quarter turn more than -(90 + a), which lies in front
module _ (a : Fraction) (A : 0 < a.over) (h : a.plus + 90 * a.over ≤ a.minus)
    (k : a.minus ≤ a.plus + 180 * a.over) where
  turned_front : (w : Wave) → Close (2 ^ 54) (wave w (opposite a)) (after w (λ v. wave v (opposite (whole 90 ⊕ a)))) 1
  turned_front w = front w (opposite (whole 90 ⊕ a)) (opposite a) (mul-pos {m = 1} (lit< tt) A) A
      (record { above = omega arith; below = omega arith }) (omega arith)

  right_behind : (w : Wave) → Close (2 ^ 54) (wave w (whole 90 ⊕ a)) (after w (λ v. wave v a)) 1
  right_behind sine =
      close_sym (rw (wave_opposite cosine a, wave_opposite sine (whole 90 ⊕ a)) at (turned_front cosine))
  right_behind cosine =
      close_sym (rw (wave_opposite sine a, wave_opposite cosine (whole 90 ⊕ a)) at (turned_front sine))

-- from 90 to 180: with u = a - 90 and t = 90 - u, both in front, a is 90 + u, t is 90 + -u, and the opposite of a - 270
-- is 90 + t
module _ (a : Fraction) (A : 0 < a.over) (h : a.minus + 90 * a.over ≤ a.plus)
    (k : a.plus ≤ a.minus + 180 * a.over) where
  u : Fraction
  u = a ⊖ whole 90

  t : Fraction
  t = whole 90 ⊖ u

  b : Fraction
  b = a ⊖ whole 270

  u_pos : 0 < u.over
  unfolding u
  u_pos = mul-pos {n = 1} A (lit< tt)

  t_pos : 0 < t.over
  unfolding t
  t_pos = mul-pos {m = 1} (lit< tt) u_pos

  from_a : (w : Wave) → Close (2 ^ 54) (wave w a) (after w (λ v. wave v u)) 1
  unfolding u
  from_a w = front w u a u_pos A (record { above = omega arith; below = omega arith }) (omega arith)

  from_t : (w : Wave) → Close (2 ^ 54) (wave w t) (after w (λ v. wave v (opposite u))) 1
  unfolding u t
  from_t w = front w (opposite u) t u_pos t_pos (record { above = omega arith; below = omega arith }) (same_refl t)

  from_b : (w : Wave) → Close (2 ^ 54) (wave w (opposite b)) (after w (λ v. wave v t)) 1
  unfolding u t b
  from_b w = front w t (opposite b) t_pos (mul-pos {n = 1} A (lit< tt))
      (record { above = omega arith; below = omega arith }) (omega arith)

  left_behind : (w : Wave) → Close (2 ^ 54) (wave w (a ⊖ whole 270)) (after w (λ v. wave v a)) 3
  unfolding b
  left_behind sine =
      close_trans (close_trans (close_opposite (rw (wave_opposite sine b) at (from_b sine)))
      (close_opposite (rw (wave_opposite sine u) at (from_t cosine)))) (close_sym (from_a cosine))
  left_behind cosine =
      close_trans (close_trans (rw (wave_opposite cosine b) at (from_b cosine))
      (close_opposite (rw (wave_opposite cosine u) at (from_t sine)))) (close_opposite (close_sym (from_a sine)))

-- ---- and for the defined values at any angle

reduced_to : (w : Wave) (d b y : Fraction) → 0 < d.over → 0 < b.over → Reduces d b → Close (2 ^ 54) (wave w b) y 3
    → Close (2 ^ 54) (wave w (reduced d)) y 3
reduced_to w d b y D B h c =
    let R = reduced_pos d D in
    close_same (wave w (reduced d)) y (wave_pos w (reduced d) R) c.second
    (wave_same w (reduced d) b (reduced_unique d (reduced d) b D R B (reduces d D) h)) (same_refl y) c

module _ (d a : Fraction) (A : 0 < a.over) (h : Reduces d a) where
  -- a quarter turn more of the reduced angle, and 360 less where that passes 180
  quarter_more : a.plus ≤ a.minus + 90 * a.over → Reduces (d ⊕ whole 90) (whole 90 ⊕ a)
  quarter_more k =
      let (i, j, e) = h.turns in
      record { turns = (i, j, (omega arith)); above = omega (arith, h.above); most = omega arith }

  quarter_less : a.minus + 90 * a.over < a.plus → Reduces (d ⊕ whole 90) (a ⊖ whole 270)
  quarter_less k =
      let (i, j, e) = h.turns in
      record { turns = (i, j + 1, (omega arith)); above = omega arith; most = omega (arith, h.most) }

module _ (w : Wave) (d : Fraction) (D : 0 < d.over) where
  reduced_quarter : Close (2 ^ 54) (wave w (reduced (d ⊕ whole 90))) (after w (λ v. wave v (reduced d))) 3
  reduced_quarter = go (reduced d) (reduced_pos d D) (reduces d D)
    where
      D' : 0 < (d ⊕ whole 90).over
      D' = mul-pos {n = 1} D (lit< tt)

      go : (a : Fraction) → 0 < a.over → Reduces d a → Close (2 ^ 54) (wave w (reduced (d ⊕ whole 90)))
          (after w (λ v. wave v a)) 3
      go a A h = by (dec_le a.plus (a.minus + 90 * a.over)) (dec_le a.minus (a.plus + 90 * a.over))
        where
          y : Fraction
          y = after w (λ v. wave v a)

          by : Dec (a.plus ≤ a.minus + 90 * a.over) → Dec (a.minus ≤ a.plus + 90 * a.over)
              → Close (2 ^ 54) (wave w (reduced (d ⊕ whole 90))) y 3
          by (yes l) (yes m) =
              reduced_to w (d ⊕ whole 90) (whole 90 ⊕ a) y D' (mul-pos {m = 1} (lit< tt) A) (quarter_more d a A h l)
              (close_wider (front w a (whole 90 ⊕ a) A (mul-pos {m = 1} (lit< tt) A)
              (record { above = omega arith; below = omega arith }) (same_refl (whole 90 ⊕ a))) (lit≤ tt))
          by (yes l) (no m) =
              reduced_to w (d ⊕ whole 90) (whole 90 ⊕ a) y D' (mul-pos {m = 1} (lit< tt) A) (quarter_more d a A h l)
              (close_wider (right_behind a A (omega arith) (omega arith) w) (lit≤ tt))
          by (no l) m = reduced_to w (d ⊕ whole 90) (a ⊖ whole 270) y D' (mul-pos {n = 1} A (lit< tt))
              (quarter_less d a A h (omega arith)) (left_behind a A (omega arith) (omega arith) w)

  pub defined_quarter : Within 51 (defined w (d ⊕ whole 90)) (after w (λ v. defined v d))
  defined_quarter =
      counted_within (lit< tt) (lit≤ tt)
      (close_trans (close_trans (within_close (defined_sum w (d ⊕ whole 90) (mul-pos {n = 1} D (lit< tt))))
      reduced_quarter) (after_sum w))
    where
      after_sum : (w : Wave) → Close (2 ^ 54) (after w (λ v. wave v (reduced d))) (after w (λ v. defined v d)) 1
      after_sum sine = close_sym (within_close (defined_sum cosine d D))
      after_sum cosine = close_opposite (close_sym (within_close (defined_sum sine d D)))
