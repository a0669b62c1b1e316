-- The rounding law, for both formats, subnormal results included: a fraction of magnitude 2 ^ emax at most rounds to a
-- finite value, which `Rounds` it (`round_rounds`), and so does the `Result` of an operation (`result_rounds`;
-- Operations.antt has them). In units of 1 / W, a result of magnitude B / W is moved by `rounding f B` units at most
-- (`rounds_close`). Assumes nothing.
use Rattle.std.specs.Prelude.{◌≡◌, ◌⊎◌, ◌+◌, ◌*◌, ◌-◌, ◌/◌, ◌^◌, ◌≤◌, ◌<◌, ◌∷◌}
use Rattle.lists.specs.Prelude.{refl, sym, ap, ◌∙◌, subst, subst₂, inl, inr, Bool, true, false, cond, ℕ, suc, le_trans}
use Rattle.lists.specs.Prelude.{le_of_eq, mul_assoc, mul_comm, mul_left_comm, mul-pos, mul-le-mul_right}
use Rattle.lists.specs.Prelude.{mul-le-mul_left, le_of_mul-le-mul_right, lt_of_mul-lt-mul_right, pow-suc, pow-succ'}
use Rattle.lists.specs.Prelude.{arith, List, [], T, leb, ltb, ltb→lt, leb→le, lit≤, pow-add, pow_pos, Float, Format}
use Rattle.lists.specs.Prelude.{binary32, binary64, prec, emax, low, hid, size, round}
use Rattle.lists.proofs.Tests.{all, each_holds}
use lib.Ieee.Fits.{round_is}
use lib.Ieee.Exact.{HasValue, units_val}
use lib.Ieee.Nearest.{closest}
use lib.Ieee.Scale.{grid}
use Rattle.formats.proofs.Patterns.{twice_hid}
use Rattle.formats.proofs.Dropped.{dropped}
use Rattle.fractions.specs.Fraction.{Fraction, fraction, unit, magnitude, signed, number, ◌⊖◌, ◌⊗◌, Same, AtMost}
use Rattle.fractions.specs.Fraction.{gap}
use Rattle.fractions.proofs.Ring.{ring}
use Rattle.fractions.proofs.Order.{same_refl, gap_times}
use Rattle.fractions.proofs.Restate.{equal}
use Rattle.fractions.proofs.Closest.{closest_rounded}
use Rattle.fractions.proofs.Close.{Close, Size, gap_above, close_difference, difference_close, close_same}
use Rattle.fractions.proofs.Close.{close_unit, ceiling, ceiling_ge}
use Rattle.fractions.proofs.Within.{size_gap, at_most_size, size_at_most, apart_close}
use Rattle.fractions.proofs.Number.{value_same, value_number, apart_like}

-- ---- what IEEE 754 leaves of an exact result: x is a number, and no further from q than rounding puts it, one part
-- in 2 ^ prec of q, or half the format's smallest value
abbrev Moved : Format → Fraction → Fraction → Type 0
Moved f x q =
    AtMost (magnitude (x ⊖ q)) (magnitude q ⊗ unit (prec f)) ⊎ AtMost (magnitude (x ⊖ q)) (unit (suc (low f)))

pub record Rounds (f : Format) (x q : Fraction) : Type 0 where
  pub first : 0 < x.over
  pub second : 0 < q.over
  pub near : Moved f x q

-- ---- `Rounds`, counted: in units of 1 / (q.over * 2 ^ prec), or of 1 / 2 ^ (low + 1)
abbrev Counted : Format → Fraction → Fraction → Type 0
Counted f x q = Close (q.over * 2 ^ prec f) x q (gap q.plus q.minus) ⊎ Close (2 ^ suc (low f)) x q 1

part_is : (q : Fraction) (p : ℕ) → magnitude q ⊗ unit p ≡ fraction (gap q.plus q.minus) 0 (q.over * 2 ^ p)
part_is q p = plain (gap q.plus q.minus)
  where
    plain : (n : ℕ) → fraction (n * 1 + 0 * 0) (n * 0 + 0 * 1) (q.over * 2 ^ p) ≡ fraction n 0 (q.over * 2 ^ p)
    plain n = equal (omega arith) (omega arith) refl

counted_rounds : (f : Format) {x q : Fraction} → 0 < x.over → 0 < q.over → Counted f x q → Rounds f x q
counted_rounds f {x} {q} X Q c = record { first = X; second = Q; near = go c }
  where
    go : Counted f x q → Moved f x q
    go (inl h) = inl (subst (λ (z : Fraction). AtMost (magnitude (x ⊖ q)) z) (sym (part_is q (prec f)))
        (size_at_most (close_difference h)))
    go (inr h) = inr (size_at_most (close_difference h))

rounds_counted : (f : Format) {x q : Fraction} → Rounds f x q → Counted f x q
rounds_counted f {x} {q} r = go r.near
  where
    go : Moved f x q → Counted f x q
    go (inl h) = inl (difference_close r.first r.second
        (at_most_size (subst (λ (z : Fraction). AtMost (magnitude (x ⊖ q)) z) (part_is q (prec f)) h)))
    go (inr h) = inr (difference_close r.first r.second (at_most_size h))

-- the same of other names of the two numbers, of which the second has the same magnitude over the same number
counted_same : (f : Format) {x q : Fraction} (x' q' : Fraction) → 0 < x'.over → Same x' x → Same q q'
    → q.over ≡ q'.over → gap q.plus q.minus ≡ gap q'.plus q'.minus → Counted f x q → Counted f x' q'
counted_same f {x} {q} x' q' X e d o g = go
  where
    go : Counted f x q → Counted f x' q'
    go (inl h) = inl (subst₂ (λ (n m : ℕ). Close (n * 2 ^ prec f) x' q' m) o g
        (close_same x' q' X (subst (λ (n : ℕ). 0 < n) o h.second) e d h))
    go (inr h) = inr (close_same x' q' X (subst (λ (n : ℕ). 0 < n) o h.second) e d h)

-- ---- in whole numbers: the value is grid / 2 ^ low, and |grid * den - num * 2 ^ low| is num * 2 ^ low / 2 ^ prec at
-- most, where digits are dropped, or den / 2, where none is
off_grid : (q k n den : ℕ) → gap n (q * (den * k)) * 2 ≤ den * k → gap (q * k * den) n * 2 ≤ den * k
off_grid q k n den h = omega arith

abbrev Near-grid : Format → ℕ → ℕ → ℕ → Type 0
Near-grid f n den d = (d * 2 ^ prec f ≤ n) ⊎ (d * 2 ≤ den)

near_nat : (d k n den H P : ℕ) → P ≡ 2 * H → d * 2 ≤ den * 2 ^ k → (k ≡ 0) ⊎ (H * (den * 2 ^ k) ≤ n)
    → (d * P ≤ n) ⊎ (d * 2 ≤ den)
near_nat d k n den H P p h (inl e) = inr (omega (arith, rw e at h))
near_nat d k n den H P p h (inr l) = inl (rw p (omega (arith, mul-le-mul_right H h)))

grid_near : (f : Format) (num den : ℕ) → 0 < den → Near-grid f (num * 2 ^ low f) den
    (gap (grid f num den * den) (num * 2 ^ low f))
grid_near f num den D =
    let n = num * 2 ^ low f in
    let k = size (n / den) - prec f in
    near_nat (gap (grid f num den * den) n) k n den (hid f) (2 ^ prec f) (twice_hid f)
    (off_grid (closest n (den * 2 ^ k)) (2 ^ k) n den (closest_rounded n (den * 2 ^ k) (mul-pos D (pow_pos k))).half)
    (dropped f n den D).least

-- ---- no overflow up to 2 ^ emax
either_way : (d n den H P : ℕ) → P ≡ 2 * H → (d * P ≤ n) ⊎ (d * 2 ≤ den) → d * (2 * H) ≤ n + den * H
either_way d n den H P p (inl h) = omega (arith, rw p at h)
either_way d n den H P p (inr h) = omega (arith, mul-le-mul_right H h)

under_nat : (g den num L H Z : ℕ) → g * den * (2 * H) ≤ num * L * (2 * H) + (num * L + den * H) → num * L ≤ den * Z
    → num * L * H ≤ den * Z * H → g * (2 * H) * den ≤ (Z * (2 * H) + Z + H) * den
under_nat g den num L H Z x y z = let x' = simp ring at x in let z' = simp ring at z in simp ring (omega arith)

two_le_half : (f : Format) → 2 ≤ hid f
two_le_half binary32 = lit≤ tt
two_le_half binary64 = lit≤ tt

twice : (l e : ℕ) → 2 ^ e * 2 ^ l * 2 ≡ 2 ^ (l + suc e)
twice l e = sym (pow-add 2 l (suc e) ∙ simp (pow-suc, mul_assoc, mul_comm, mul_left_comm))

grid_under : (f : Format) (num den : ℕ) → 0 < den → num ≤ den * 2 ^ emax f → grid f num den < 2 ^ (low f + suc (emax f))
grid_under f num den D h =
    let L = 2 ^ low f in
    let H = hid f in
    let Z = 2 ^ emax f * L in
    let g = grid f num den in
    let y : num * L ≤ den * Z = omega (arith, mul-le-mul_right L h) in
    let n : g * den * (2 * H) ≤ num * L * (2 * H) + (num * L + den * H) =
    gap_above (g * den * (2 * H)) (num * L * (2 * H)) (num * L + den * H)
    (le_trans (le_of_eq (gap_times (g * den) (num * L) (2 * H)))
    (either_way (gap (g * den) (num * L)) (num * L) den H (2 ^ prec f) (twice_hid f)
    (grid_near f num den D))) in
    let u = le_of_mul-le-mul_right (under_nat g den num L H Z n y (mul-le-mul_right H y)) D in
    rw (← twice (low f) (emax f)) (lt_of_mul-lt-mul_right (2 * H)
    (omega (
      arith,
      mul-le-mul_right Z (two_le_half f),
      mul-le-mul_left H (mul-pos (pow_pos (emax f)) (pow_pos (low f))),
      pow_pos (prec f - 1),
    )))

-- ---- the law
round_value : (f : Format) (s : Bool) (num den : ℕ) → 0 < den → num ≤ den * 2 ^ emax f
    → HasValue (round f s num den) s (grid f num den) (2 ^ low f)
round_value f s num den D h =
    let k = size (num * 2 ^ low f / den) - prec f in
    rw (round_is f s num den) (units_val f s (closest (num * 2 ^ low f) (den * 2 ^ k)) k (grid_under f num den D h))

pub signed_gap : (s : Bool) (a : ℕ) → gap (cond s 0 a) (cond s a 0) ≡ a
signed_gap false a = omega arith
signed_gap true a = omega arith

part_nat : (d num den L P : ℕ) → d * P ≤ num * L → d * (den * P) ≤ num * (L * den)
part_nat d num den L P h = omega (arith, mul-le-mul_right den h)

half_nat : (d den L : ℕ) → d * 2 ≤ den → d * (2 * L) ≤ 1 * (L * den)
half_nat d den L h = omega (arith, mul-le-mul_right L h)

grid_counted : (f : Format) (s : Bool) (num den : ℕ) → 0 < den
    → Counted f (signed s (grid f num den) (2 ^ low f)) (signed s num den)
grid_counted f s num den D = go (grid_near f num den D)
  where
    go : Near-grid f (num * 2 ^ low f) den (gap (grid f num den * den) (num * 2 ^ low f))
        → Counted f (signed s (grid f num den) (2 ^ low f)) (signed s num den)
    go (inl h) =
        inl (apart_close (pow_pos (low f)) D
        (subst₂ (λ (d n : ℕ). d * (den * 2 ^ prec f) ≤ n * (2 ^ low f * den))
        (sym (apart_like s (grid f num den) (2 ^ low f) num den)) (sym (signed_gap s num))
        (part_nat (gap (grid f num den * den) (num * 2 ^ low f)) num den (2 ^ low f) (2 ^ prec f) h)))
    go (inr h) =
        inr (apart_close (pow_pos (low f)) D
        (subst₂ (λ (d m : ℕ). d * m ≤ 1 * (2 ^ low f * den)) (sym (apart_like s (grid f num den) (2 ^ low f) num den))
        (sym (pow-succ' 2 (low f)))
        (half_nat (gap (grid f num den * den) (num * 2 ^ low f)) den (2 ^ low f) h)))

round_rounds : (f : Format) (s : Bool) (num den : ℕ) → 0 < den → num ≤ den * 2 ^ emax f
    → Rounds f (number (round f s num den)) (signed s num den)
round_rounds f s num den D h =
    let x = round f s num den in
    let v = round_value f s num den D h in
    let X = value_number x s _ _ v in
    let q = signed s num den in
    counted_rounds f X D (counted_same f (number x) q X (value_same x s _ _ v) (same_refl q) refl refl
    (grid_counted f s num den D))

-- ---- a float that is a fraction rounded once: ±size / q.over, handed to `round`
abbrev pub Difference : Bool → ℕ → Fraction → Type 0
Difference false k q = q.plus ≡ q.minus + k
Difference true k q = q.minus ≡ q.plus + k

pub record Result (f : Format) (z : Float) (q : Fraction) : Type 0 where
  pub sign : Bool
  pub size : ℕ
  pub difference : Difference sign size q
  pub is : z ≡ round f sign size q.over

pub signed_difference : (s : Bool) (a c : ℕ) → Difference s a (signed s a c)
signed_difference false a c = omega arith
signed_difference true a c = omega arith

pub difference_same : (s : Bool) (k : ℕ) (q : Fraction) → Difference s k q → Same (signed s k q.over) q
difference_same false k q e = omega (arith, ap (λ (n : ℕ). n * q.over) e)
difference_same true k q e = omega (arith, ap (λ (n : ℕ). n * q.over) e)

pub difference_gap : (s : Bool) (k : ℕ) (q : Fraction) → Difference s k q → gap q.plus q.minus ≡ k
difference_gap false k q e = omega arith
difference_gap true k q e = omega arith

difference_size : (s : Bool) (k : ℕ) (q : Fraction) (B : ℕ) → Difference s k q → Size 1 q B → k ≤ q.over * B
difference_size false k q B e h = omega (arith, h.above, mul_comm q.over B)
difference_size true k q B e h = omega (arith, h.below, mul_comm q.over B)

pub result_rounds : (f : Format) {z : Float} {q : Fraction} → 0 < q.over → Size 1 q (2 ^ emax f) → Result f z q
    → Rounds f (number z) q
result_rounds f {z} {q} D h a =
    let s = a.sign in
    let k = a.size in
    let x = number (round f s k q.over) in
    let r = round_rounds f s k q.over D (difference_size s k q (2 ^ emax f) a.difference h) in
    rw a.is (counted_rounds f r.first D
    (counted_same f x q r.first (same_refl x) (difference_same s k q a.difference) refl
    (signed_gap s k ∙ sym (difference_gap s k q a.difference)) (rounds_counted f r)))

-- ---- in units of 1 / W
-- what rounding moves a result of magnitude B / W by
abbrev pub rounding : Format → ℕ → ℕ
rounding f B = ceiling B (2 ^ prec f)

-- half the format's smallest value is no more than a unit, and a result of magnitude B / W does not overflow
abbrev fine_tests : Format → ℕ → ℕ → List Bool
fine_tests f W B = ltb 0 W ∷ leb W (2 ^ suc (low f)) ∷ leb B (2 ^ emax f * W) ∷ []

abbrev pub fine : Format → ℕ → ℕ → Bool
fine f W B = all (fine_tests f W B)

module _ (f : Format) (W B : ℕ) (t : T (fine f W B)) where
  pub fine_unit : 0 < W
  fine_unit = ltb→lt 0 W (each_holds (fine_tests f W B) t).0

  fine_step : W ≤ 2 ^ suc (low f)
  fine_step = leb→le _ _ (each_holds (fine_tests f W B) t).1.0

  pub fine_most : B ≤ 2 ^ emax f * W
  fine_most = leb→le _ _ (each_holds (fine_tests f W B) t).1.1.0

pub rounds_close : (f : Format) {W B : ℕ} {x q : Fraction} → T (fine f W B) → Size W q B → Rounds f x q
    → Close W x q (rounding f B)
rounds_close f {W} {B} {x} {q} t m r = go (rounds_counted f r)
  where
    part : B * q.over ≤ rounding f B * (q.over * 2 ^ prec f)
    part = omega (arith, mul-le-mul_right q.over (ceiling_ge B (2 ^ prec f) (pow_pos (prec f))))

    go : Counted f x q → Close W x q (rounding f B)
    go (inl h) = close_unit (mul-pos r.second (pow_pos (prec f))) (le_trans (size_gap m) part) h
    go (inr h) = close_unit (pow_pos (suc (low f))) (omega (arith, fine_step f W B t)) h
