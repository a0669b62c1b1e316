-- What `round` makes of a fraction is the nearest value of the format: no other is nearer (`best`), of two as near it
-- is the even one (`tie`), and what is too large is an infinity (`past_middle`, `before_middle`). In units of the
-- format's smallest value the fraction is n / c, of which k digits are dropped. So it is rounded to a multiple of U = c
-- * 2 ^ k, and a value of the format is such a multiple or is too short to be near. Over every format, and in whole
-- numbers: Narrows.antt says it of floats. Assumes nothing.
use Rattle.std.specs.Prelude.{◌≡◌, ◌⊎◌, ◌+◌, ◌*◌, ◌%◌, ◌^◌, ◌≤◌, ◌<◌}
use Rattle.lists.specs.Prelude.{refl, sym, ap, ◌∙◌, subst, inl, inr, ⊎_elim, ℕ, suc, le_trans, le_of_eq, le_of_lt}
use Rattle.lists.specs.Prelude.{lt_of_lt_of_le, lt_irrefl, not-le_of_lt, le_antisymm, le_of_suc-le-suc, eq-or-lt_of_le}
use Rattle.lists.specs.Prelude.{suc-mul, mul-le-mul, zero-mul, mul-one, mul_assoc, mul_comm, mul_left_comm, mul-pos}
use Rattle.lists.specs.Prelude.{pow-suc, mul-le-mul_right, mul-le-mul_left, mul-lt-mul_of_pos_right}
use Rattle.lists.specs.Prelude.{le_of_mul-le-mul_left, le_of_mul-le-mul_right, lt_of_mul-lt-mul_right, ℕ_discrete}
use Rattle.lists.specs.Prelude.{dec_lt, arith, pow_pos, pow_mono, Format, prec, hid}
use lib.Arith.{lt_of_le-ne}
use lib.Ieee.Scale.{overflow}
use lib.Ieee.Nearest.{closest}
use Rattle.lists.proofs.Tests.{order_cases}
use Rattle.fractions.specs.Fraction.{gap}
use Rattle.fractions.proofs.Closest.{Rounded, closest_rounded, closest_le, closest_ge, rounded_best, rounded_even}
use Rattle.formats.proofs.Digits.{exponent_le}
use Rattle.formats.proofs.Patterns.{twice_hid}
use Rattle.formats.proofs.Grid.{Grid, grid_or_small}
use Rattle.formats.proofs.Dropped.{Dropped}

-- ---- a multiple of U no more than half of U from n, and another as near, are not twice U apart
short_of : (n x y U : ℕ) → 0 < U → gap n (y * U) * 2 ≤ U → gap n (x * U) ≤ gap n (y * U) → suc (suc x) * U ≤ y * U → ⊥
short_of n x y U u h k m = omega arith

beyond : (n x y U : ℕ) → 0 < U → gap n (y * U) * 2 ≤ U → gap n (x * U) ≤ gap n (y * U) → suc (suc y) * U ≤ x * U → ⊥
beyond n x y U u h k m = omega arith

-- below an even number, the last one is odd, so that what lies in the middle is not rounded to it
at_end : (n x P U : ℕ) → 0 < U → x < P → P % 2 ≡ 0 → Rounded n U x → 2 * n + U < 2 * (P * U)
at_end n x P U u l e r = last (eq-or-lt_of_le l)
  where
    last : (suc x ≡ P) ⊎ (suc x < P) → 2 * n + U < 2 * (P * U)
    last (inl m) = rw (← m) (omega (arith, lt_of_le-ne r.half (λ t. omega (arith, r.even t))))
    last (inr m) = omega (arith, r.half, mul-le-mul_right U m)

-- ---- in units: q * U is as near to n as w * c for any w of the format, and if that is as near too, q is even or q *
-- 2 ^ k is w
module _ (f : Format) (n c k : ℕ) (C : 0 < c) (d : Dropped f n c k) where
  abbrev q : ℕ
  q = closest n (c * 2 ^ k)

  U_pos : 0 < c * 2 ^ k
  U_pos = mul-pos C (pow_pos k)

  rounded_q : Rounded n (c * 2 ^ k) q
  rounded_q = closest_rounded n (c * 2 ^ k) U_pos

  pub most_digits : q ≤ 2 ^ prec f
  most_digits = closest_le n (c * 2 ^ k) (2 ^ prec f) U_pos d.most

  pub leading : (k ≡ 0) ⊎ (hid f ≤ q)
  leading = go d.least
    where
      go : (k ≡ 0) ⊎ (hid f * (c * 2 ^ k) ≤ n) → (k ≡ 0) ⊎ (hid f ≤ q)
      go (inl z) = inl z
      go (inr h) = inr (closest_ge n (c * 2 ^ k) (hid f) U_pos h)

  multiple : (w W : ℕ) → w ≡ W * 2 ^ k → w * c ≡ W * (c * 2 ^ k)
  multiple w W e = ap (λ (x : ℕ). x * c) e ∙ mul_assoc W (2 ^ k) c ∙ ap (λ (x : ℕ). W * x) (mul_comm (2 ^ k) c)

  -- w is a multiple of 2 ^ k, or is farther than hid * 2 ^ k
  data Place (w : ℕ) : Type 0 where
    at : (W : ℕ) → w ≡ W * 2 ^ k → Place w
    short : gap n (q * (c * 2 ^ k)) < gap n (w * c) → Place w

  place : (w : ℕ) → Grid f w → Place w
  place w g = go d.least (grid_or_small f w k g)
    where
      go : (k ≡ 0) ⊎ (hid f * (c * 2 ^ k) ≤ n) → ((W : ℕ) × (w ≡ W * 2 ^ k)) ⊎ (w < hid f * 2 ^ k) → Place w
      go l (inl (W, e)) = at W e
      go (inl z) (inr s) = at w (sym (ap (λ (x : ℕ). w * 2 ^ x) z ∙ mul-one w))
      go (inr l) (inr s) =
          short (omega (
            arith,
            subst (λ (x : ℕ). w * c < x) (multiple (hid f * 2 ^ k) (hid f) refl)
                (mul-lt-mul_of_pos_right s C),
            rounded_best n (c * 2 ^ k) q (hid f) rounded_q,
          ))

  pub best : (w : ℕ) → Grid f w → gap n (q * (c * 2 ^ k)) ≤ gap n (w * c)
  best w g = go (place w g)
    where
      go : Place w → gap n (q * (c * 2 ^ k)) ≤ gap n (w * c)
      go (at W e) = subst (λ (x : ℕ). gap n (q * (c * 2 ^ k)) ≤ gap n x) (sym (multiple w W e))
          (rounded_best n (c * 2 ^ k) q W rounded_q)
      go (short l) = le_of_lt l

  pub tie : (w : ℕ) → Grid f w → gap n (w * c) ≤ gap n (q * (c * 2 ^ k)) → (w ≡ q * 2 ^ k → ⊥) → q % 2 ≡ 0
  tie w g l ne = go (place w g)
    where
      go : Place w → q % 2 ≡ 0
      go (at W e) =
          rounded_even n (c * 2 ^ k) q W rounded_q
          (le_antisymm (rounded_best n (c * 2 ^ k) q W rounded_q)
          (subst (λ (x : ℕ). gap n x ≤ gap n (q * (c * 2 ^ k))) (multiple w W e) l))
          (λ h. ne (e ∙ ap (λ (x : ℕ). x * 2 ^ k) h))
      go (short s) = absurd (not-le_of_lt s l)

  -- zero is a value too: whatever has the other sign is no nearer than it
  zero_off : gap n (0 * (c * 2 ^ k)) ≡ n
  zero_off = omega (arith, zero-mul (c * 2 ^ k))

  pub best_zero : gap n (q * (c * 2 ^ k)) ≤ n
  best_zero = le_trans (rounded_best n (c * 2 ^ k) q 0 rounded_q) (le_of_eq zero_off)

  pub tie_zero : n ≤ gap n (q * (c * 2 ^ k)) → q % 2 ≡ 0
  tie_zero l = go (ℕ_discrete 0 q)
    where
      go : Dec (0 ≡ q) → q % 2 ≡ 0
      go (yes e) = ap (λ (x : ℕ). x % 2) (sym e)
      go (no ne) = rounded_even n (c * 2 ^ k) q 0 rounded_q
          (le_antisymm (rounded_best n (c * 2 ^ k) q 0 rounded_q)
          (subst (λ (x : ℕ). x ≤ gap n (q * (c * 2 ^ k))) (sym zero_off) l)) ne

  -- ---- another value that is as near is the next on the other side, and has its digits as q has
  pub record Next (w : ℕ) : Type 0 where
    pub W : ℕ
    pub is : w ≡ W * 2 ^ k
    pub beside : (suc W ≡ q) ⊎ (W ≡ suc q)
    pub most : W ≤ 2 ^ prec f
    pub leads : (k ≡ 0) ⊎ (hid f ≤ W)

  pub next : (w : ℕ) → Grid f w → gap n (w * c) ≤ gap n (q * (c * 2 ^ k)) → (w ≡ q * 2 ^ k → ⊥) → Next w
  next w g l ne = go (place w g)
    where
      -- x and y multiples of U, each no more than half of U from n, and not the same
      either : (U x y : ℕ) → 0 < U → gap n (y * U) * 2 ≤ U → gap n (x * U) ≤ gap n (y * U) → (x ≡ y → ⊥)
          → (suc x ≡ y) ⊎ (x ≡ suc y)
      either U x y u h k t =
          order_cases x y
          (λ a. ⊎_elim inl (λ b. absurd (short_of n x y U u h k (mul-le-mul_right U b))) (eq-or-lt_of_le a))
          (λ e. absurd (t e))
          (λ a. ⊎_elim (λ e. inr (sym e)) (λ b. absurd (beyond n x y U u h k (mul-le-mul_right U b)))
          (eq-or-lt_of_le a))

      under : (U x P : ℕ) → 0 < U → gap n (x * U) * 2 ≤ U → n < P * U → x ≤ P
      under U x P u h m = le_of_suc-le-suc (lt_of_mul-lt-mul_right U (rw (suc-mul P U) (omega arith)))

      over : (U x H : ℕ) → 0 < U → gap n (x * U) * 2 ≤ U → H * U ≤ n → H ≤ x
      over U x H u h m = le_of_suc-le-suc (lt_of_mul-lt-mul_right U (rw (suc-mul x U) (omega arith)))

      lead : (W : ℕ) → gap n (W * (c * 2 ^ k)) * 2 ≤ c * 2 ^ k → (k ≡ 0) ⊎ (hid f * (c * 2 ^ k) ≤ n)
          → (k ≡ 0) ⊎ (hid f ≤ W)
      lead W h (inl z) = inl z
      lead W h (inr m) = inr (over (c * 2 ^ k) W (hid f) U_pos h m)

      go : Place w → Next w
      go (short s) = absurd (not-le_of_lt s l)
      go (at W e) =
          let near : gap n (W * (c * 2 ^ k)) ≤ gap n (q * (c * 2 ^ k)) = subst
          (λ (x : ℕ). gap n x ≤ gap n (q * (c * 2 ^ k))) (multiple w W e) l in
          let half : gap n (W * (c * 2 ^ k)) * 2 ≤ c * 2 ^ k = le_trans (mul-le-mul_right 2 near) rounded_q.half in
          record {
            W = W;
            is = e;
            beside = either (c * 2 ^ k) W q U_pos rounded_q.half near (λ h. ne (e ∙ ap (λ (x : ℕ). x * 2 ^ k) h));
            most = under (c * 2 ^ k) W (2 ^ prec f) U_pos half d.most;
            leads = lead W half d.least;
          }

  -- ---- too large: K digits are dropped of the largest numbers, so that the middle between the last of them and the
  -- next power of two is 2 ^ prec * X less half of X, X being c * 2 ^ K
  module _ (K : ℕ) (end : overflow f ≡ 2 ^ prec f * 2 ^ K) where
    more : (i j : ℕ) → i < j → 2 * (c * 2 ^ i) ≤ c * 2 ^ j
    more i j l = le_trans (le_of_eq (simp (pow-suc, mul_comm, mul_left_comm))) (mul-le-mul_left c (pow_mono l))

    -- what is rounded to the power of two or beyond
    pub past_middle : overflow f ≤ q * 2 ^ k → 2 * (2 ^ prec f * (c * 2 ^ K)) ≤ 2 * n + c * 2 ^ K
    past_middle o = go (ℕ_discrete k K) d.least
      where
        reach_k : K ≤ k
        reach_k = exponent_le K k
            (le_of_mul-le-mul_left (le_trans (le_of_eq (sym end)) (le_trans o (mul-le-mul_right (2 ^ k) most_digits)))
            (pow_pos (prec f)))

        full : k ≡ K → q ≡ 2 ^ prec f
        full e = le_antisymm most_digits
            (le_of_mul-le-mul_right (le_trans (le_of_eq (ap (λ (x : ℕ). 2 ^ prec f * 2 ^ x) e ∙ sym end)) o)
            (pow_pos k))

        reached : ¬ (k ≡ K) → K < k
        reached ne = omega (arith, reach_k)

        far : (H P X Y : ℕ) → P ≡ 2 * H → H * Y ≤ n → H * (2 * X) ≤ H * Y → 2 * (P * X) ≤ 2 * n + X
        far H P X Y e h l = subst (λ (z : ℕ). 2 * (z * X) ≤ 2 * n + X) (sym e) (omega arith)

        go : Dec (k ≡ K) → (k ≡ 0) ⊎ (hid f * (c * 2 ^ k) ≤ n) → 2 * (2 ^ prec f * (c * 2 ^ K)) ≤ 2 * n + c * 2 ^ K
        go (yes e) l =
            subst (λ (j : ℕ). 2 * (2 ^ prec f * (c * 2 ^ j)) ≤ 2 * n + c * 2 ^ j) e
            (omega (
              arith,
              d.most,
              subst (λ (x : ℕ). gap n (x * (c * 2 ^ k)) * 2 ≤ c * 2 ^ k) (full e)
                  rounded_q.half,
            ))
        go (no ne) (inl z) = absurd (omega (arith, reached ne))
        go (no ne) (inr h) = far (hid f) (2 ^ prec f) (c * 2 ^ K) (c * 2 ^ k) (twice_hid f) h
            (mul-le-mul_left (hid f) (more K k (reached ne)))

    -- what is rounded to a number below it
    pub before_middle : q * 2 ^ k < overflow f → 2 * n + c * 2 ^ K < 2 * (2 ^ prec f * (c * 2 ^ K))
    before_middle o = go (ℕ_discrete k K) (dec_lt k K)
      where
        even : 2 ^ prec f % 2 ≡ 0
        even = rw (twice_hid f) (omega arith)

        under : (P X Y : ℕ) → n < P * Y → P * (2 * Y) ≤ P * X → 1 * X ≤ P * X → 2 * n + X < 2 * (P * X)
        under P X Y h l m = omega arith

        past : K < k → (k ≡ 0) ⊎ (hid f ≤ q) → ⊥
        past l (inl z) = omega arith
        past l (inr h) =
            lt_irrefl (q * 2 ^ k)
            (lt_of_lt_of_le o
            (le_trans (le_of_eq end)
            (le_trans (le_of_eq
            (ap (λ (x : ℕ). x * 2 ^ K) (twice_hid f)
            ∙ simp (pow-suc, mul_assoc, mul_comm, mul_left_comm)))
            (mul-le-mul h (pow_mono l)))))

        go : Dec (k ≡ K) → Dec (k < K) → 2 * n + c * 2 ^ K < 2 * (2 ^ prec f * (c * 2 ^ K))
        go (yes e) l =
            subst (λ (j : ℕ). 2 * n + c * 2 ^ j < 2 * (2 ^ prec f * (c * 2 ^ j))) e
            (at_end n q (2 ^ prec f) (c * 2 ^ k) U_pos
            (lt_of_mul-lt-mul_right (2 ^ k)
            (subst (λ (j : ℕ). q * 2 ^ k < 2 ^ prec f * 2 ^ j) (sym e)
            (subst (λ (x : ℕ). q * 2 ^ k < x) end o))) even rounded_q)
        go (no ne) (yes l) = under (2 ^ prec f) (c * 2 ^ K) (c * 2 ^ k) d.most
            (mul-le-mul_left (2 ^ prec f) (more k K l)) (mul-le-mul_right (c * 2 ^ K) (pow_pos (prec f)))
        go (no ne) (no nl) = absurd (past (omega arith) leading)
