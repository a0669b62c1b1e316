-- How far apart two numbers are and how large one is, in units of 1 / W: the vocabulary in which every error is
-- counted. `Close W x y E` says that x and y are numbers and |x - y| ≤ E / W, `Size W x M` that |x| ≤ M / W, `Least W x
-- L` that x ≥ L / W. Each is said by inequalities between whole numbers with no difference in them, which is what
-- `ring` and omega want; proofs/Within.antt ties them to the words of specs/. Nobody has to believe them: a bound that
-- is counted in them is handed over as a `Within`. Assumes nothing.
use Rattle.std.specs.Prelude.{◌+◌, ◌*◌, ◌/◌, ◌≤◌, ◌<◌}
use Rattle.lists.specs.Prelude.{ap, ℕ, suc, mul-pos, mul-le-mul, mul-le-mul_right, le_of_mul-le-mul_right}
use Rattle.lists.specs.Prelude.{lt-div-mul-add, arith, lit<}
use Rattle.fractions.specs.Fraction.{Fraction, fraction, whole, ◌⊕◌, ◌⊖◌, ◌⊗◌, opposite, Same, AtMost, gap}
use Rattle.fractions.proofs.Ring.{ring}
use Rattle.fractions.proofs.Order.{by_gap}

-- x - y ≤ E / W
abbrev pub Above : ℕ → Fraction → Fraction → ℕ → Type 0
Above W x y E = (x.plus * y.over + y.minus * x.over) * W ≤ (y.plus * x.over + x.minus * y.over) * W + E
    * (x.over * y.over)

-- `below` is `above` with every sign changed: a law shows `above`, and has `below` from the opposite numbers
pub record Close (W : ℕ) (x y : Fraction) (E : ℕ) : Type 0 where
  pub first : 0 < x.over
  pub second : 0 < y.over
  pub above : Above W x y E
  pub below : Above W (opposite x) (opposite y) E

pub record Size (W : ℕ) (x : Fraction) (M : ℕ) : Type 0 where
  pub above : x.plus * W ≤ x.minus * W + M * x.over
  pub below : x.minus * W ≤ x.plus * W + M * x.over

pub record Least (W : ℕ) (x : Fraction) (L : ℕ) : Type 0 where
  pub least : x.minus * W + L * x.over ≤ x.plus * W

-- ---- in whole numbers: |a - b| as two bounds, and |(a - b) * (c - d)|
pub gap_above : (a b E : ℕ) → gap a b ≤ E → a ≤ b + E
gap_above a b E h = omega arith

pub gap_below : (a b E : ℕ) → gap a b ≤ E → b ≤ a + E
gap_below a b E h = omega arith

pub gap_most : (a b E : ℕ) → a ≤ b + E → b ≤ a + E → gap a b ≤ E
gap_most a b E h k = omega arith

gap_product : (a b c d E F : ℕ) → gap a b ≤ E → gap c d ≤ F → a * c + b * d ≤ a * d + b * c + E * F
gap_product a b c d E F =
    by_gap (λ (a b i : ℕ). i ≤ E → gap c d ≤ F → a * c + b * d ≤ a * d + b * c + E * F)
    (λ b i. by_gap (λ (c d j : ℕ). i ≤ E → j ≤ F → (b + i) * c + b * d ≤ (b + i) * d + b * c + E * F)
    (λ d j h k. omega (arith, mul-le-mul h k)) (λ c j h k. omega arith) c d)
    (λ a i. by_gap (λ (c d j : ℕ). i ≤ E → j ≤ F → a * c + (a + i) * d ≤ a * d + (a + i) * c + E * F)
    (λ d j h k. omega arith) (λ c j h k. omega (arith, mul-le-mul h k)) c d)
    a b

pub product_most : (a b c d E F : ℕ) → a ≤ b + E → b ≤ a + E → c ≤ d + F → d ≤ c + F
    → a * c + b * d ≤ a * d + b * c + E * F
product_most a b c d E F h i j k = gap_product a b c d E F (gap_most a b E h i) (gap_most c d F j k)

-- ---- the order of x and y, a change of sign, and another name of the same number
module _ {W E : ℕ} {x y : Fraction} where
  pub close_sym : Close W x y E → Close W y x E
  close_sym h = omega arith

  pub close_opposite : Close W x y E → Close W (opposite x) (opposite y) E
  close_opposite h = record { first = h.first; second = h.second; above = h.below; below = h.above }

  -- |x - y| is the magnitude of the difference
  pub close_difference : Close W x y E → Size W (x ⊖ y) E
  close_difference h = record { above = omega (arith, h.above); below = omega (arith, h.below) }

  pub difference_close : 0 < x.over → 0 < y.over → Size W (x ⊖ y) E → Close W x y E
  difference_close X Y h = omega arith

pub size_opposite : {W M : ℕ} {x : Fraction} → Size W x M → Size W (opposite x) M
size_opposite h = record { above = h.below; below = h.above }

pub same_close : (W : ℕ) (x y : Fraction) → 0 < x.over → 0 < y.over → Same x y → Close W x y 0
same_close W x y X Y e = omega (arith, ap (λ (t : ℕ). t * W) e)

-- ---- a larger bound, and one in another unit: E / W ≤ F / U
other_unit : (a b D W U E F : ℕ) → 0 < W → E * U ≤ F * W → a * W ≤ b * W + E * D → a * U ≤ b * U + F * D
other_unit a b D W U E F w k h = le_of_mul-le-mul_right (omega (arith, mul-le-mul_right U h, mul-le-mul_right D k)) w

module _ {W E F : ℕ} {x y : Fraction} where
  pub close_wider : Close W x y E → E ≤ F → Close W x y F
  close_wider h k = omega (arith, h, mul-le-mul_right (x.over * y.over) k)

  pub close_unit : {U : ℕ} → 0 < W → E * U ≤ F * W → Close W x y E → Close U x y F
  close_unit {U} w k h = record {
    first = h.first;
    second = h.second;
    above = other_unit _ _ (x.over * y.over) W U E F w k h.above;
    below = other_unit _ _ (x.over * y.over) W U E F w k h.below;
  }

module _ {W M N : ℕ} {x : Fraction} where
  pub size_wider : Size W x M → M ≤ N → Size W x N
  size_wider h k = omega (arith, h, mul-le-mul_right x.over k)

  pub size_unit : {U : ℕ} → 0 < W → M * U ≤ N * W → Size W x M → Size U x N
  size_unit {U} w k h = record {
    above = other_unit _ _ x.over W U M N w k h.above;
    below = other_unit _ _ x.over W U M N w k h.below;
  }

-- ---- |x - z| ≤ |x - y| + |y - z|
trans_above : {W E F : ℕ} {x y z : Fraction} → Close W x y E → Close W y z F → Above W x z (E + F)
trans_above {W} {E} {F} {x} {y} {z} h k =
    le_of_mul-le-mul_right
    (simp ring (omega (
      arith,
      simp ring at (mul-le-mul_right z.over h.above),
      simp ring at (mul-le-mul_right x.over k.above),
    ))) h.second

pub close_trans : {W E F : ℕ} {x y z : Fraction} → Close W x y E → Close W y z F → Close W x z (E + F)
close_trans h k = record {
  first = h.first;
  second = k.second;
  above = trans_above h k;
  below = trans_above (close_opposite h) (close_opposite k);
}

-- a number under another name, on either side
pub close_same : {W E : ℕ} {x y : Fraction} (x' y' : Fraction) → 0 < x'.over → 0 < y'.over → Same x' x → Same y y'
    → Close W x y E → Close W x' y' E
close_same {W} {E} {x} {y} x' y' X Y e d h = close_wider
    (close_trans (close_trans (same_close W x' x X h.first e) h) (same_close W y y' h.second Y d)) (omega arith)

near_above : {W E M : ℕ} {x y : Fraction} → Close W x y E → Size W y M → x.plus * W ≤ x.minus * W + (M + E) * x.over
near_above {W} {E} {M} {x} {y} h k =
    le_of_mul-le-mul_right (omega (arith, h.above, mul-le-mul_right x.over k.above)) h.second

pub size_near : {W E M : ℕ} {x y : Fraction} → Close W x y E → Size W y M → Size W x (M + E)
size_near h k = record { above = near_above h k; below = near_above (close_opposite h) (size_opposite k) }

pub size_same : {W M : ℕ} {x : Fraction} (y : Fraction) → 0 < x.over → 0 < y.over → Same y x → Size W x M → Size W y M
size_same {W} {M} {x} y X Y e h = size_wider (size_near (same_close W y x Y X e) h) (omega arith)

-- ---- 0 for an x that is not above 0: what is within E / W of x, and at most E / W below 0, is within E / W of 0
pub zero_near : {W E : ℕ} (x q : Fraction) → Close W x q E → AtMost x (whole 0) → AtMost (fraction 0 E W) q
    → Close W (whole 0) q E
zero_near {W} {E} x q c h l = record {
  first = lit< tt;
  second = c.second;
  above = omega arith;
  below = le_of_mul-le-mul_right (omega (arith, mul-le-mul_right (q.over * W) h, c.below)) c.first;
}

-- ---- sums
add_above : {W E F : ℕ} {x x' y y' : Fraction} → Close W x x' E → Close W y y' F → Above W (x ⊕ y) (x' ⊕ y') (E + F)
add_above {W} {E} {F} {x} {x'} {y} {y'} h k =
    simp ring (omega (
      arith,
      simp ring at (mul-le-mul_right (y.over * y'.over) h.above),
      simp ring at (mul-le-mul_right (x.over * x'.over) k.above),
    ))

module _ {W E F : ℕ} {x x' y y' : Fraction} where
  pub close_add : Close W x x' E → Close W y y' F → Close W (x ⊕ y) (x' ⊕ y') (E + F)
  close_add h k = record {
    first = mul-pos h.first k.first;
    second = mul-pos h.second k.second;
    above = add_above h k;
    below = add_above (close_opposite h) (close_opposite k);
  }

pub close_sub : {W E F : ℕ} {x x' y y' : Fraction} → Close W x x' E → Close W y y' F → Close W (x ⊖ y) (x' ⊖ y') (E + F)
close_sub h k = close_add h (close_opposite k)

pub size_add : {W M N : ℕ} {x y : Fraction} → Size W x M → Size W y N → Size W (x ⊕ y) (M + N)
size_add {x = x} {y = y} h k = record {
  above = omega (arith, mul-le-mul_right y.over h.above, mul-le-mul_right x.over k.above);
  below = omega (arith, mul-le-mul_right y.over h.below, mul-le-mul_right x.over k.below);
}

-- ---- products: x y - x' y' = (x - x') y + x' (y - y')
mul_nat : (xp xm xo xp' xm' xo' yp ym yo yp' ym' yo' W E F M N G : ℕ)
    → ((xp * xo' + xm' * xo) * W * (yp * W) + (xp' * xo + xm * xo') * W * (ym * W)) * yo'
    ≤ ((xp * xo' + xm' * xo) * W * (ym * W) + (xp' * xo + xm * xo') * W * (yp * W) + E * (xo * xo') * (N * yo)) * yo'
    → (xp' * W * ((yp * yo' + ym' * yo) * W) + xm' * W * ((yp' * yo + ym * yo') * W)) * xo
    ≤ (xp' * W * ((yp' * yo + ym * yo') * W) + xm' * W * ((yp * yo' + ym' * yo) * W) + M * xo' * (F * (yo * yo'))) * xo
    → (E * N + M * F) * (xo * yo * (xo' * yo')) ≤ G * W * (xo * yo * (xo' * yo'))
    → ((xp * yp + xm * ym) * (xo' * yo') + (xp' * ym' + xm' * yp') * (xo * yo)) * W * W
    ≤ (((xp' * yp' + xm' * ym') * (xo * yo) + (xp * ym + xm * yp) * (xo' * yo')) * W + G * (xo * yo * (xo' * yo'))) * W
mul_nat xp xm xo xp' xm' xo' yp ym yo yp' ym' yo' W E F M N G h k g =
    let h' = simp ring at h in let k' = simp ring at k in let g' = simp ring at g in simp ring (omega arith)

-- `below` the other way round
turned : {W E : ℕ} {x y : Fraction} → Close W x y E → (y.plus * x.over + x.minus * y.over) * W
    ≤ (x.plus * y.over + y.minus * x.over) * W + E * (x.over * y.over)
turned {W} {E} {x} {y} h = omega (arith, h.below)

mul_above : {W E F M N : ℕ} {x x' y y' : Fraction} (G : ℕ) → 0 < W → E * N + M * F ≤ G * W → Close W x x' E
    → Close W y y' F → Size W x' M → Size W y N → Above W (x ⊗ y) (x' ⊗ y') G
mul_above {W} {E} {F} {M} {N} {x} {x'} {y} {y'} G w g h k m n =
    le_of_mul-le-mul_right
    (mul_nat x.plus x.minus x.over x'.plus x'.minus x'.over y.plus y.minus y.over y'.plus
    y'.minus y'.over W E F M N G
    (mul-le-mul_right y'.over (product_most _ _ (y.plus * W) (y.minus * W) (E * (x.over * x'.over)) (N * y.over)
    h.above (turned h) n.above n.below))
    (mul-le-mul_right x.over (product_most (x'.plus * W) (x'.minus * W) _ _ (M * x'.over)
    (F * (y.over * y'.over)) m.above m.below k.above (turned k)))
    (mul-le-mul_right (x.over * y.over * (x'.over * y'.over)) g)) w

pub close_mul : {W E F M N : ℕ} {x x' y y' : Fraction} (G : ℕ) → 0 < W → E * N + M * F ≤ G * W → Close W x x' E
    → Close W y y' F → Size W x' M → Size W y N → Close W (x ⊗ y) (x' ⊗ y') G
close_mul G w g h k m n = record {
  first = mul-pos h.first k.first;
  second = mul-pos h.second k.second;
  above = mul_above G w g h k m n;
  below = mul_above G w g h (close_opposite k) m (size_opposite n);
}

size_mul_above : {W M N : ℕ} {x y : Fraction} (G : ℕ) → 0 < W → M * N ≤ G * W → Size W x M → Size W y N
    → (x ⊗ y).plus * W ≤ (x ⊗ y).minus * W + G * (x ⊗ y).over
size_mul_above {W} {M} {N} {x} {y} G w g h k =
    le_of_mul-le-mul_right
    (omega (
      arith,
      product_most (x.plus * W) (x.minus * W) (y.plus * W) (y.minus * W) (M * x.over) (N * y.over)
          h.above h.below k.above k.below,
      mul-le-mul_right (x.over * y.over) g,
    )) w

pub size_mul : {W M N : ℕ} {x y : Fraction} (G : ℕ) → 0 < W → M * N ≤ G * W → Size W x M → Size W y N → Size W (x ⊗ y) G
size_mul G w g h k = record { above = size_mul_above G w g h k; below = size_mul_above G w g h (size_opposite k) }

-- ---- a / W, rounded up, and a little over where it is whole
abbrev pub ceiling : ℕ → ℕ → ℕ
ceiling a W = suc (a / W)

pub ceiling_ge : (a W : ℕ) → 0 < W → a ≤ ceiling a W * W
ceiling_ge a W w = omega (arith, lt-div-mul-add {a = a} w)
