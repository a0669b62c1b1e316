-- Reduction by 360: what `turned` and `reduced` of specs/Angles.antt give is what document 01 asks, and nothing else
-- is. Two angles that are whole turns apart are turned to the same place, and two that are near each other to places
-- that are as near, one way round or the other. Assumes nothing.
use Rattle.std.specs.Prelude.{◌≡◌, ◌⊎◌, ◌+◌, ◌*◌, ◌-◌, ◌/◌, ◌%◌, ◌≤◌, ◌<◌}
use Rattle.lists.specs.Prelude.{refl, sym, ap, ◌∙◌, subst, inl, inr, ℕ, le_of_lt, not-le_of_lt, add-lt-add_of_lt_of_le}
use Rattle.lists.specs.Prelude.{add_right_cancel, mul-suc, mul_comm, mul-le-mul_left, mul-le-mul_right}
use Rattle.lists.specs.Prelude.{mul-lt-mul_of_pos_right, eq_of_mul-eq-mul_right, mod-lt, mod-eq_of_lt, div-add-mod}
use Rattle.lists.specs.Prelude.{div-lt_iff_lt-mul, add-mul-mod_self_left, arith}
use borrow.Author.Count.{below_none, below_more}
use Rattle.lists.proofs.Tests.{by_at_most, order_cases}
use Rattle.fractions.specs.Fraction.{Fraction, fraction, whole, opposite, ◌⊕◌, Same, Less, AtMost}
use Rattle.fractions.proofs.Ring.{ring}
use Rattle.fractions.proofs.Close.{Close, Size}
use Rattle.series.specs.Angles.{turned, around, reduced, Reduces}

-- p - m and r differ by a whole multiple of t
pub record Turns (p m r t : ℕ) : Type 0 where
  pub back : ℕ
  pub forth : ℕ
  pub round : p + t * back ≡ m + r + t * forth

pub turned_turns : (d : Fraction) → 0 < d.over → Turns d.plus d.minus (turned d) (360 * d.over)
unfolding turned
turned_turns d D =
    let t = 360 * d.over in
    let m = d.minus in
    let s = d.plus + (t - m % t) in
    record {
      back = m / t + 1;
      forth = s / t;
      round = omega (arith, div-add-mod m t, mod-lt m {m = t} (omega arith), div-add-mod s t);
    }

pub turned_less : (d : Fraction) → 0 < d.over → turned d < 360 * d.over
unfolding turned
turned_less d D = mod-lt (d.plus + (360 * d.over - d.minus % (360 * d.over))) (omega arith)

-- ---- whole turns apart

same_place : (t r s u v : ℕ) → r < t → s < t → r + t * u ≡ s + t * v → r ≡ s
same_place t r s u v h k e = sym (mod-eq_of_lt h) ∙ sym (add-mul-mod_self_left r t u) ∙ ap (λ (n : ℕ). n % t) e
    ∙ add-mul-mod_self_left s t v ∙ mod-eq_of_lt k

less_nat : (r o o' : ℕ) → r < 360 * o → 0 < o' → r * o' < 360 * (o * o')
less_nat r o o' h k = omega (arith, mul-lt-mul_of_pos_right h k)

module _ (d e : Fraction) (D : 0 < d.over) (E : 0 < e.over) where
  turned_less_both : (turned d * e.over < 360 * (d.over * e.over)) × (turned e * d.over < 360 * (d.over * e.over))
  turned_less_both = (
    less_nat (turned d) d.over e.over (turned_less d D) E,
    subst (λ (n : ℕ). turned e * d.over < 360 * n) (mul_comm e.over d.over)
        (less_nat (turned e) e.over d.over (turned_less e E) D),
  )

  pub turned_apart : (i j : ℕ) → Same (d ⊕ whole (360 * i)) (e ⊕ whole (360 * j))
      → turned d * e.over ≡ turned e * d.over
  turned_apart i j h =
      let a = turned_turns d D in
      let b = turned_turns e E in
      same_place (360 * (d.over * e.over)) (turned d * e.over) (turned e * d.over) (i + a.forth + b.back)
      (j + a.back + b.forth) turned_less_both.0 turned_less_both.1
      (omega (arith, ap (λ (n : ℕ). n * e.over) a.round, ap (λ (n : ℕ). n * d.over) b.round))

  pub turned_same : Same d e → turned d * e.over ≡ turned e * d.over
  turned_same h = turned_apart 0 0 (omega arith)

-- ---- the reduced angle, on the two sides of 180

pub reduced_around : (d : Fraction) → reduced d ≡ around (turned d) d.over
unfolding reduced
reduced_around d = refl

-- what is to hold of it is shown on both sides
pub by_side : (P : Fraction → Type 0) (r o : ℕ) → (r ≤ 180 * o → P (fraction r 0 o))
    → (180 * o < r → P (fraction r (360 * o) o)) → P (around r o)
unfolding around
by_side P r o = by_at_most P r (180 * o)

pub low_size : (r o : ℕ) → r ≤ 180 * o → Size 1 (fraction r 0 o) 180
low_size r o h = record { above = omega arith; below = omega arith }

pub high_size : (r o : ℕ) → 180 * o < r → r < 360 * o → Size 1 (fraction r (360 * o) o) 180
high_size r o h l = record { above = omega arith; below = omega arith }

pub around_size : (r o : ℕ) → r < 360 * o → Size 1 (around r o) 180
around_size r o h = by_side (λ (x : Fraction). Size 1 x 180) r o (low_size r o) (λ l. high_size r o l h)

pub around_pos : (r o : ℕ) → 0 < o → 0 < (around r o).over
around_pos r o h = by_side (λ (x : Fraction). 0 < x.over) r o (λ l. h) (λ l. h)

-- ---- it is what document 01 asks for

around_reduces : (d : Fraction) → 0 < d.over → (r : ℕ) → r < 360 * d.over
    → Turns d.plus d.minus r (360 * d.over) → Reduces d (around r d.over)
around_reduces d D r l t = by_side (λ (x : Fraction). Reduces d x) r d.over
    (λ h. record {
      turns = (t.back, t.forth, (omega (arith, ap (λ (n : ℕ). n * d.over) t.round)));
      above = omega arith;
      most = omega arith;
    })
    (λ h. record {
      turns = (t.back, t.forth + 1, (omega (arith, ap (λ (n : ℕ). n * d.over) t.round)));
      above = omega arith;
      most = omega arith;
    })

pub reduces : (d : Fraction) → 0 < d.over → Reduces d (reduced d)
reduces d D = rw (reduced_around d) (around_reduces d D (turned d) (turned_less d D) (turned_turns d D))

pub reduced_pos : (d : Fraction) → 0 < d.over → 0 < (reduced d).over
reduced_pos d D = rw (reduced_around d) (around_pos (turned d) d.over D)

-- ---- numbers that are whole turns apart are equal, or a turn apart at least

data Apart (t x y : ℕ) : Type 0 where
  level : x ≡ y → Apart t x y
  over : y + t ≤ x → Apart t x y
  under : x + t ≤ y → Apart t x y

apart : (t x y u v : ℕ) → x + t * u ≡ y + t * v → Apart t x y
apart t x y u v e =
    order_cases u v (λ l. over (more x y u v l e))
    (λ s. level (add_right_cancel (t * v) (subst (λ (n : ℕ). x + t * n ≡ y + t * v) s e)))
    (λ l. under (more y x v u l (sym e)))
  where
    more : (x y u v : ℕ) → u < v → x + t * u ≡ y + t * v → y + t ≤ x
    more x y u v l e = omega (arith, mul-le-mul_left t l, mul-suc t u)

-- ---- nothing else is

turns_apart : (d r s : Fraction) (i j k l : ℕ) → Same (d ⊕ whole (360 * i)) (r ⊕ whole (360 * j))
    → Same (d ⊕ whole (360 * k)) (s ⊕ whole (360 * l))
    → (r.plus * s.over + s.minus * r.over + 360 * (r.over * s.over) * (j + k)) * d.over
    ≡ (s.plus * r.over + r.minus * s.over + 360 * (r.over * s.over) * (l + i)) * d.over
turns_apart d r s i j k l e f =
    simp ring (omega (
      arith,
      simp ring at (ap (λ (n : ℕ). n * s.over) e),
      simp ring at (ap (λ (n : ℕ). n * r.over) f),
    ))

pub reduced_unique : (d r s : Fraction) → 0 < d.over → 0 < r.over → 0 < s.over → Reduces d r → Reduces d s → Same r s
reduced_unique d r s D R S g h =
    let (i, j, e) = g.turns in
    let (k, l, f) = h.turns in
    go (apart (360 * (r.over * s.over)) (r.plus * s.over + s.minus * r.over)
    (s.plus * r.over + r.minus * s.over) (j + k) (l + i)
    (eq_of_mul-eq-mul_right d.over D _ _ (turns_apart d r s i j k l e f)))
  where
    far : (p1 m1 o1 p2 m2 o2 : ℕ) → 0 < o1 → 0 < o2 → p1 ≤ 180 * o1 + m1 → m2 < p2 + 180 * o2
        → p2 * o1 + m1 * o2 + 360 * (o1 * o2) ≤ p1 * o2 + m2 * o1 → ⊥
    far p1 m1 o1 p2 m2 o2 a b t n h = omega (arith, mul-le-mul_right o2 t, mul-lt-mul_of_pos_right n a)

    go : Apart (360 * (r.over * s.over)) (r.plus * s.over + s.minus * r.over)
        (s.plus * r.over + r.minus * s.over) → Same r s
    go (level e) = e
    go (over l) = absurd (far r.plus r.minus r.over s.plus s.minus s.over R S (omega (arith, g.most))
        (omega (arith, h.above)) l)
    go (under l) =
        absurd (far s.plus s.minus s.over r.plus r.minus r.over S R (omega (arith, h.most))
        (omega (arith, g.above))
        (subst (λ (n : ℕ). r.plus * s.over + s.minus * r.over + 360 * n ≤ s.plus * r.over + r.minus
        * s.over) (mul_comm r.over s.over) l))

-- so an angle that is reduced already stays
pub reduced_itself : (d : Fraction) → 0 < d.over → Less (opposite (whole 180)) d → AtMost d (whole 180)
    → Same (reduced d) d
reduced_itself d D l h = reduced_unique d (reduced d) d D (reduced_pos d D) D (reduces d D)
    (record { turns = (0, 0, refl); above = l; most = h })

-- ---- angles near each other are turned to places near each other, beside or on the two sides of 0

-- with a and b for the places, over n: |a - b|, or a turn less it, is e / w at most
pub data Near (w e n a b : ℕ) : Type 0 where
  beside : a * w ≤ b * w + e * n → b * w ≤ a * w + e * n → Near w e n a b
  ahead : a * w + 360 * n * w ≤ b * w + e * n → Near w e n a b
  behind : b * w + 360 * n * w ≤ a * w + e * n → Near w e n a b

near_of : (w e n x y a b : ℕ) → Apart (360 * n) (x + b) (y + a) → x * w ≤ y * w + e * n → y * w ≤ x * w + e * n
    → Near w e n a b
near_of w e n x y a b (level i) h k =
    let j = ap (λ (t : ℕ). t * w) i in beside (omega (arith, j)) (omega (arith, j))
near_of w e n x y a b (over l) h k = ahead (omega (arith, mul-le-mul_right w l))
near_of w e n x y a b (under l) h k = behind (omega (arith, mul-le-mul_right w l))

pub turned_near : (d e : Fraction) {w t : ℕ} → Close w d e t
    → Near w t (d.over * e.over) (turned d * e.over) (turned e * d.over)
turned_near d e {w} {t} c =
    let a = turned_turns d c.first in
    let b = turned_turns e c.second in
    near_of w t (d.over * e.over) (d.plus * e.over + e.minus * d.over) (e.plus * d.over + d.minus * e.over)
    (turned d * e.over) (turned e * d.over)
    (apart (360 * (d.over * e.over)) (d.plus * e.over + e.minus * d.over + turned e * d.over)
    (e.plus * d.over + d.minus * e.over + turned d * e.over) (a.back + b.forth) (a.forth + b.back)
    (omega (arith, ap (λ (n : ℕ). n * e.over) a.round, ap (λ (n : ℕ). n * d.over) b.round))) c.above
    (omega (arith, c.below))

-- ---- the opposite angle's place: the two make up a turn, or both are 0

pub turned_opposite : (d : Fraction) → 0 < d.over → (turned d + turned (opposite d) ≡ 0)
    ⊎ (turned d + turned (opposite d) ≡ 360 * d.over)
turned_opposite d D =
    let a = turned_turns d D in
    let b = turned_turns (opposite d) D in
    let t = 360 * d.over in
    go (apart t (turned d + turned (opposite d)) t (a.forth + b.forth + 1) (a.back + b.back)
    (omega (arith, a.round, b.round)))
    (turned_less d D) (turned_less (opposite d) D)
  where
    go : {r r' t : ℕ} → Apart t (r + r') t → r < t → r' < t → (r + r' ≡ 0) ⊎ (r + r' ≡ t)
    go (level e) h k = inr e
    go (over l) h k = absurd (not-le_of_lt (add-lt-add_of_lt_of_le h (le_of_lt k)) l)
    go (under l) h k = inl (omega arith)

-- ---- a place that is a multiple of 90 is one of four

pub four : (P : ℕ → Type 0) → P 0 → P 1 → P 2 → P 3 → (k : ℕ) → k < 4 → P k
four P at0 at1 at2 at3 =
    below_more P 3 (below_more P 2 (below_more P 1 (below_more P 0 (below_none P) at0) at1) at2) at3

module _ (r o : ℕ) (O : 0 < o) (h : r < 360 * o) where
  pub quarters_few : r / (90 * o) < 4
  quarters_few = (div-lt_iff_lt-mul {k = 90 * o} (omega arith)).1 (omega arith)

  pub quarters_times : r % (90 * o) ≡ 0 → r ≡ r / (90 * o) * (90 * o)
  quarters_times e = omega (arith, div-add-mod r (90 * o), mul_comm (r / (90 * o)) (90 * o))
