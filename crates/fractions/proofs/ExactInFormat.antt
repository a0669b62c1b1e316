-- Numbers that a format holds, so that an operation which gives one is exact: the floats themselves, whole numbers of
-- few enough digits, and a float times a power of two. Assumes nothing.
use Rattle.std.specs.Prelude.{◌≡◌, ◌+◌, ◌*◌, ◌^◌, ◌≤◌, ◌<◌}
use Rattle.lists.specs.Prelude.{refl, sym, ap, ◌∙◌, Bool, false, ℕ, zero, suc, lt_of_lt_of_le, lt_of_le_of_lt, mul-one}
use Rattle.lists.specs.Prelude.{mul_assoc, mul_comm, mul_right_comm, mul-pos, eq_of_mul-eq-mul_right, mul-le-mul_right}
use Rattle.lists.specs.Prelude.{le_of_mul-le-mul_right, arith, T, lit<, ℤ, pow-add, pow-lt, shl_lt, Float, fin, Format}
use Rattle.lists.specs.Prelude.{prec, emax, low, up, down, fits}
use Rattle.formats.proofs.Patterns.{held}
use Rattle.formats.proofs.Grid.{held_units}
use Rattle.fractions.specs.Fraction.{Fraction, whole, magnitude, number, ◌⊗◌, Same, AtMost, gap}
use Rattle.fractions.proofs.Order.{by_gap, gap_times, gap_same}
use Rattle.fractions.proofs.Close.{Size}
use Rattle.fractions.proofs.Within.{size_gap}
use Rattle.fractions.proofs.Number.{by_number}
use Rattle.fractions.proofs.Rounding.{signed_gap}
use Rattle.fractions.proofs.Exact.{Holds, digits_below}

-- ---- a float that fits
pub float_held : (f : Format) (x : Float) → 0 < (number x).over → T (fits f x) → Holds f (number x)
float_held f = by_number (λ x. T (fits f x) → Holds f (number x)) (λ s m e t. let u = held_units f s m e t in
    record { units = u.w; grid = u.grid; is = ap (λ (n : ℕ). n * 2 ^ low f) (signed_gap s (m * up e)) ∙ u.value.1 })

pub fits_most : (f : Format) (x : Float) → 0 < (number x).over → T (fits f x)
    → AtMost (magnitude (number x)) (whole (2 ^ suc (emax f)))
fits_most f = by_number (λ x. T (fits f x) → AtMost (magnitude (number x)) (whole (2 ^ suc (emax f))))
    (λ s m e t. rw (signed_gap s (m * up e)) (go s m e t))
  where
    go : (s : Bool) (m : ℕ) (e : ℤ) → T (fits f (fin s m e))
        → m * up e * 1 + 0 * down e ≤ 2 ^ suc (emax f) * down e + 0 * 1
    go s zero e t = omega arith
    go s (suc m) e t = omega (arith, (held f s m e t).small)

-- ---- another name of the same number, and a whole number
same_gap : (p m o q n u : ℕ) → p * u + n * o ≡ q * o + m * u → gap p m * u ≡ gap q n * o
same_gap p m o q n u e = sym (gap_times p m u) ∙ gap_same (p * u) (m * u) (q * o) (n * o) e ∙ gap_times q n o

same_nat : (g h L w o u : ℕ) → g * u ≡ h * o → g * L ≡ w * o → h * L * o ≡ w * u * o
same_nat g h L w o u e f = cc (mul_right_comm h L o, e, mul_right_comm g u L, f, mul_right_comm w o u)

pub same_held : (f : Format) (p q : Fraction) → 0 < p.over → Same p q → Holds f p → Holds f q
same_held f p q P e h = record {
  units = h.units;
  grid = h.grid;
  is =
      eq_of_mul-eq-mul_right p.over P _ _
      (same_nat (gap p.plus p.minus) (gap q.plus q.minus) (2 ^ low f) h.units p.over q.over
      (same_gap p.plus p.minus p.over q.plus q.minus q.over e) h.is);
}

pub whole_held : (f : Format) (n : ℕ) → n < 2 ^ prec f → Holds f (whole n)
whole_held f n h = record {
  units = n * 2 ^ low f;
  grid = record {
    c = n;
    i = low f;
    is = refl;
    fit = h;
    room = lt_of_lt_of_le (shl_lt (prec f) (low f) h)
        (digits_below f);
  };
  is = ap (λ (k : ℕ). k * 2 ^ low f) (signed_gap false n) ∙ sym (mul-one (n * 2 ^ low f));
}

-- ---- times 2 ^ j, as long as nothing overflows
power_gap : (p m k : ℕ) → gap (p * k + m * 0) (p * 0 + m * k) ≡ gap p m * k
power_gap p m k =
    by_gap (λ (p m i : ℕ). gap (p * k + m * 0) (p * 0 + m * k) ≡ i * k) (λ m i. omega arith) (λ p i. omega arith) p m

under_nat : (w o G L E : ℕ) → G * L ≡ w * o → G * 1 * L ≤ E * o * L → w * o ≤ E * L * o
under_nat w o G L E e h = omega arith

below_top : (l e : ℕ) → 2 ^ e * 2 ^ l < 2 ^ (l + suc e)
below_top l e = rw (← pow-add 2 l e ∙ mul_comm (2 ^ l) (2 ^ e)) (pow-lt (omega arith))

pub power_held : (f : Format) (q : Fraction) (j : ℕ) → 0 < q.over → Holds f q → Size 1 (q ⊗ whole (2 ^ j)) (2 ^ emax f)
    → Holds f (q ⊗ whole (2 ^ j))
power_held f q j Q h s =
    let L = 2 ^ low f in
    let w = h.units * 2 ^ j in
    let o = q.over * 1 in
    let G = gap (q.plus * 2 ^ j + q.minus * 0) (q.plus * 0 + q.minus * 2 ^ j) in
    let e : G * L ≡ w * o =
    ap (λ (n : ℕ). n * L) (power_gap q.plus q.minus (2 ^ j)) ∙ mul_right_comm (gap q.plus q.minus) (2 ^ j) L
    ∙ ap (λ (n : ℕ). n * 2 ^ j) h.is ∙ (omega arith) in
    record {
      units = w;
      grid = record {
        c = h.grid.c;
        i = h.grid.i + j;
        is = ap (λ (n : ℕ). n * 2 ^ j) h.grid.is ∙ mul_assoc h.grid.c (2 ^ h.grid.i) (2 ^ j)
            ∙ ap (λ (n : ℕ). h.grid.c * n) (sym (pow-add 2 h.grid.i j));
        fit = h.grid.fit;
        room = lt_of_le_of_lt
            (le_of_mul-le-mul_right (under_nat w o G L (2 ^ emax f) e (mul-le-mul_right L (size_gap s)))
            (mul-pos Q (lit< tt))) (below_top (low f) (emax f));
      };
      is = e;
    }
