-- What the law by squares asks of a root: r is the root of s to one part in P (`RootOf`), so r² is within 3 s / P of s
-- (`root_square`); from below, r is as large as S lets it be (`root_least`); and where G² ≤ S the quotient G / r is 1
-- at most, and a little (`quotient_size`). Assumes nothing.
use Rattle.std.specs.Prelude.{◌≡◌, ◌+◌, ◌*◌, ◌-◌, ◌≤◌, ◌<◌}
use Rattle.lists.specs.Prelude.{sym, subst, subst₂, ℕ, suc, le_of_lt, lt_of_not-le, add-sub_of_le, mul-pos, mul-le-mul}
use Rattle.lists.specs.Prelude.{mul-le-mul_right, le_of_mul-le-mul_right, lt_of_mul-lt-mul_right, dec_le, arith}
use Rattle.fractions.specs.Fraction.{Fraction, fraction, whole, square, ◌⊗◌, ◌⊘◌, Same, Less, AtMost, gap}
use Rattle.fractions.proofs.Ring.{ring}
use Rattle.fractions.proofs.Order.{same_refl, same_sym, same_mul, less_same, left, plain, plain_same, gap_times}
use Rattle.fractions.proofs.Restate.{same_square}
use Rattle.fractions.proofs.Magnitude.{square_nat, square_not_below}
use Rattle.fractions.proofs.Close.{Close, Size, Least, close_same, size_same}
use Rattle.fractions.proofs.Within.{gap_size}
use Rattle.fractions.proofs.Divide.{left_least, least_positive}
use Rattle.fractions.proofs.Squares.{square_below}

-- r is the root of s to one part in P: (r (1 - 1 / P))² < s < (r (1 + 1 / P))²
pub record RootOf (P : ℕ) (r s : Fraction) : Type 0 where
  pub root : 0 < r.over
  pub number : 0 < s.over
  pub positive : Less (whole 0) r
  pub below : Less (square (r ⊗ fraction (P - 1) 0 P)) s
  pub above : Less s (square (r ⊗ fraction (suc P) 0 P))

-- ---- u = r² and v = s, over one number: u (P - 1)² ≤ v P² and v P² ≤ u (P + 1)² say that they are 3 v / P apart at
-- most
-- r² o and s D², of r = z / D and s = y / o
record Parts (P : ℕ) (z D y o : ℕ) : Type 0 where
  pub far : o * z * z * P ≤ y * (D * D) * P + 3 * (y * (D * D))
  pub near : y * (D * D) * P ≤ o * z * z * P + 3 * (y * (D * D))

four : (q v : ℕ) → 4 ≤ q → (4 * q * v ≤ q * q * v) × (4 * v ≤ q * v)
four q v h = (mul-le-mul_right v (mul-le-mul_right q h), mul-le-mul_right v h)

parts : (q z D y o : ℕ) → 4 ≤ q → z * q * (z * q) * o < y * (D * (q + 1) * (D * (q + 1)))
    → y * (D * (q + 1) * (D * (q + 1))) < z * (q + 1 + 1) * (z * (q + 1 + 1)) * o → Parts (q + 1) z D y o
parts q z D y o h a b =
    let u = o * z * z in
    let v = y * (D * D) in
    let f = four q v h in
    let positive : 0 < q = omega arith in
    let two : 0 < q + 1 + 1 = omega arith in
    record {
      far = le_of_mul-le-mul_right (omega (arith, mul-le-mul_right (q + 1) (turn (le_of_lt a)), f.0, f.1))
          (mul-pos positive positive);
      near = le_of_mul-le-mul_right (omega (arith, mul-le-mul_right (q + 1) (turn' (le_of_lt b)))) (mul-pos two two);
    }
  where
    turn : z * q * (z * q) * o ≤ y * (D * (q + 1) * (D * (q + 1)))
        → o * z * z * (q * q) ≤ y * (D * D) * ((q + 1) * (q + 1))
    turn h = omega arith

    turn' : y * (D * (q + 1) * (D * (q + 1))) ≤ z * (q + 1 + 1) * (z * (q + 1 + 1)) * o
        → y * (D * D) * ((q + 1) * (q + 1)) ≤ o * z * z * ((q + 1 + 1) * (q + 1 + 1))
    turn' h = omega arith

cancelled : (W M t q w v : ℕ) → v * W ≤ M * w → 3 * M ≤ t * (q + 1) → (a b : ℕ) → a * (q + 1) ≤ b * (q + 1) + 3 * v
    → a * W ≤ b * W + t * w
cancelled W M t q w v h l a b k =
    let p : 0 < q + 1 = omega arith in
    le_of_mul-le-mul_right (omega (arith, mul-le-mul_right W k, h, mul-le-mul_right w l)) p

above_square : (a b c m n e : ℕ) → b ≤ a → a * c + m * e < n * e + b * c → m * e < n * e
above_square a b c m n e h k = omega (arith, mul-le-mul_right c h)

module _ {P : ℕ} (r s : Fraction) (p : 0 < P) (a : RootOf P r s) where
  r_not_below : r.minus ≤ r.plus
  r_not_below = omega (arith, a.positive)

  s_not_below : s.minus ≤ s.plus
  s_not_below =
      let y = r ⊗ fraction (P - 1) 0 P in
      le_of_lt (lt_of_mul-lt-mul_right (square y).over
      (above_square (square y).plus (square y).minus s.over s.minus s.plus (square y).over
      (square_not_below y) a.below))

  r_same : Same (plain r) r
  r_same = same_sym r (plain r) (plain_same r r_not_below)

  s_same : Same (plain s) s
  s_same = same_sym s (plain s) (plain_same s s_not_below)

  part_same : (c : ℕ) → Same (square (plain r ⊗ fraction c 0 P)) (square (r ⊗ fraction c 0 P))
  part_same c =
      let k = fraction c 0 P in same_square (plain r ⊗ k) (r ⊗ k) (same_mul (plain r) r k k r_same (same_refl k))

  part_pos : 0 < r.over * P * (r.over * P)
  part_pos = mul-pos (mul-pos a.root p) (mul-pos a.root p)

  lower_less : left r * (P - 1) * (left r * (P - 1)) * s.over < left s * (r.over * P * (r.over * P))
  lower_less = omega (
    arith,
    less_same (square (plain r ⊗ fraction (P - 1) 0 P)) (square (r ⊗ fraction (P - 1) 0 P))
        (plain s) s (part_same (P - 1)) s_same part_pos a.number a.below,
  )

  upper_less : left s * (r.over * P * (r.over * P)) < left r * suc P * (left r * suc P) * s.over
  upper_less = omega (
    arith,
    less_same (plain s) s (square (plain r ⊗ fraction (suc P) 0 P))
        (square (r ⊗ fraction (suc P) 0 P)) s_same (part_same (suc P)) a.number part_pos a.above,
  )

-- the root's square and s are 3 s / P apart at most: t / W, where s is M / W at most
pub root_square : {W P M : ℕ} {r s : Fraction} (t : ℕ) → 5 ≤ P → 3 * M ≤ t * P → RootOf P r s → Size W s M
    → Close W (square r) s t
root_square {W} {P} {M} {r} {s} t h l a m =
    let q = P - 1 in
    let e : P ≡ q + 1 = omega arith in
    let e' : suc P ≡ q + 1 + 1 = omega arith in
    let p : 0 < P = omega arith in
    let z = left r in
    let D = r.over in
    let y = left s in
    let o = s.over in
    let c = parts q z D y o (omega arith)
    (rw (← e) (lower_less r s p a))
    (subst₂ (λ (c p : ℕ). y * (D * p * (D * p)) < z * c * (z * c) * o) e' e (upper_less r s p a)) in
    let i : y * W ≤ M * o = omega (arith, (size_same (plain s) a.number a.number (s_same r s p a) m).above) in
    let w = cancelled W M t q (D * D * o) (y * (D * D)) (omega (arith, mul-le-mul_right (D * D) i))
    (rw (← e) l) in
    close_same (square r) s (mul-pos a.root a.root) a.number
    (same_square r (plain r) (plain_same r (r_not_below r s p a))) (s_same r s p a)
    (record {
      first = mul-pos a.root a.root;
      second = a.number;
      above = omega (arith, w (o * z * z) (y * (D * D)) c.far);
      below = omega (arith, w (y * (D * D)) (o * z * z) c.near);
    })

-- ---- r from below, and G / r from above
from_square : (a b : ℕ) → a * a ≤ b * b → a ≤ b
from_square a b h = elim (dec_le a b) [
  | yes l ↦ l
  | no l ↦ absurd (omega (arith, mul-le-mul_right a (lt_of_not-le l), mul-le-mul_right b (lt_of_not-le l)))
]

pub root_least : {W t b : ℕ} {r S : Fraction} (L : ℕ) → L * L + t * W ≤ b * W → Less (whole 0) r
    → Close W (square r) S t → Least W S b → Least W r L
root_least {W} {t} {b} {r} {S} L l p c h =
    let m : r.minus ≤ r.plus = omega (arith, p) in
    let z = left r in
    let D = r.over in
    let i = from_square (L * D) (z * W)
    (le_of_mul-le-mul_right
    (simp ring (omega (
      arith,
      simp ring at (mul-le-mul_right W (square_below r m c)),
      simp ring at (mul-le-mul_right (D * D * W) h.least),
      simp ring at (mul-le-mul_right (D * D * S.over) l),
    ))) c.second) in
    record { least = rw (← add-sub_of_le m) (omega arith) }

size_nat : (A B C z D W t M L sp sm : ℕ) → (A * A * C + sm * (B * B)) * (D * D * W * W * (L * L)) ≤ sp * (B * B)
    * (D * D * W * W * (L * L))
    → sp * (D * D) * W * (B * B * W * (L * L)) ≤ (C * z * z * W + sm * (D * D) * W + t * (D * D * C))
    * (B * B * W * (L * L)) → L * D * (L * D) * (t * C * B * B * W) ≤ z * W * (z * W) * (t * C * B * B * W)
    → (W * W * (L * L) + t * (W * W * W)) * (B * B * (z * z) * C) ≤ M * M * (L * L) * (B * B * (z * z) * C)
    → A * D * W * (A * D * W) * (C * (L * L)) ≤ M * (B * z) * (M * (B * z)) * (C * (L * L))
size_nat A B C z D W t M L sp sm x y i j = let x' = simp ring at x in let y' = simp ring at y in let i' = simp ring at
    i in let j' = simp ring at j in simp ring (omega arith)

square_at_most : (A p m B C sp sm : ℕ) → A * A + (p * m + m * p) ≡ p * p + m * m
    → (p * p + m * m) * C + sm * (B * B) ≤ sp * (B * B) + (p * m + m * p) * C
    → A * A * C + sm * (B * B) ≤ sp * (B * B)
square_at_most A p m B C sp sm e h =
    omega (arith, subst (λ (n : ℕ). n * C + sm * (B * B) ≤ sp * (B * B) + (p * m + m * p) * C) (sym e) h)

-- where G² is S at most, the quotient is the root of 1 + t W / L² at most, in units of 1 / W
pub quotient_size : {W t L : ℕ} (M : ℕ) (G r S : Fraction) → 0 < L → W * W * (L * L) + t * (W * W * W) ≤ M * M * (L * L)
    → AtMost (square G) S → Close W (square r) S t → 0 < r.over → Least W r L → Size W (G ⊘ r) M
quotient_size {W} {t} {L} M G r S lp g h c D>0 l =
    let m = le_of_lt (least_positive lp D>0 l) in
    let z = left r in
    let A = gap G.plus G.minus in
    let B = G.over in
    let C = S.over in
    let D = r.over in
    let i = left_least r m l in
    let s = square_at_most A G.plus G.minus B C S.plus S.minus (square_nat G.plus G.minus) h in
    gap_size
    (rw (gap_times G.plus G.minus D) (from_square (A * D * W) (M * (B * z))
    (le_of_mul-le-mul_right
    (size_nat A B C z D W t M L S.plus S.minus (mul-le-mul_right (D * D * W * W * (L * L)) s)
    (mul-le-mul_right (B * B * W * (L * L)) (square_below r m c))
    (mul-le-mul_right (t * C * B * B * W) (mul-le-mul i i))
    (mul-le-mul_right (B * B * (z * z) * C) g)) (mul-pos c.second (mul-pos lp lp)))))
