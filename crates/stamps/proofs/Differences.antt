-- What a frame is by the wrapped difference, case by case. Assumes nothing.
use Rattle.std.specs.Prelude.{◌≡◌, ◌+◌, ◌^◌, ◌≤◌, ◌<◌}
use Rattle.lists.specs.Prelude.{refl, Bool, cond, ℕ, suc-ne-zero, arith, eqb-true, eqb-false, ne_eqb, le-leb, lt-leb}
use Rattle.lists.specs.Prelude.{lt-ltb, le-ltb, eqb, leb, ltb}
use Rattle.lists.proofs.Tests.{by_test, by_less, by_at_most}
use Rattle.stamps.specs.Arrivals.{Expected}
use Rattle.std.specs.Prelude.{None, Some}
use Rattle.stamps.specs.declared.Arrival.{Arrival}
use Rattle.stamps.specs.declared.Arrival.TheVariants.{Next, Ahead, Jump, Late}
use Rattle.stamps.specs.Arrivals.{ahead, coming_by, coming_of}
use Rattle.stamps.specs.Counts.{out_one, late_one, silent_one, reset_one}

-- ---- of a difference

pub by_difference : (P : Arrival → Type 0) (d : ℕ) → (d ≡ 0 → P Next) → (0 < d → d ≤ 4096 → P (Ahead d))
    → (4096 < d → d < 2 ^ 31 → P Jump) → (2 ^ 31 ≤ d → P Late) → P (coming_by d)
unfolding coming_by
by_difference P d next missing jump late =
    by_test (λ (b : Bool). P (cond b Next (cond (leb d 4096) (Ahead d) (cond (ltb d (2 ^ 31)) Jump Late)))) (eqb d 0)
    (λ e. next (eqb-true d 0 e))
    (λ e. let some : d ≡ 0 → ⊥ = eqb-false d 0 e in by_at_most P d 4096 (λ h. missing (omega (arith, some)) h)
    (λ h. by_less P d (2 ^ 31) (λ k. jump h k) late))

pub difference_none : coming_by 0 ≡ Next
unfolding coming_by
difference_none = refl

pub difference_few : (d : ℕ) → 0 < d → d ≤ 4096 → coming_by d ≡ Ahead d
unfolding coming_by
difference_few d some few = simp (ne_eqb d 0 (λ e. omega arith), le-leb d 4096 few)

pub difference_more : (d : ℕ) → 4096 < d → d < 2 ^ 31 → coming_by d ≡ Jump
unfolding coming_by
difference_more d many less = simp (ne_eqb d 0 (λ e. omega arith), lt-leb d 4096 many, lt-ltb d (2 ^ 31) less)

pub difference_half : (d : ℕ) → 2 ^ 31 ≤ d → coming_by d ≡ Late
unfolding coming_by
difference_half d most = simp (ne_eqb d 0 (λ e. omega arith), lt-leb d 4096 (omega arith), le-ltb d (2 ^ 31) most)

-- ---- what a kind tells of the difference

pub ahead_difference : (d k : ℕ) → coming_by d ≡ Ahead k → (d ≡ k) × ((0 < d) × (d ≤ 4096))
ahead_difference d k =
    by_difference (λ c. c ≡ Ahead k → (d ≡ k) × ((0 < d) × (d ≤ 4096))) d (λ e h. absurd (suc-ne-zero 0 (cc)))
    (λ s f h. (cc, (s, f))) (λ a b h. absurd (suc-ne-zero 0 (cc))) (λ a h. absurd (suc-ne-zero 0 (cc)))

-- ---- of one frame

-- it comes out, with the silence before it, or is late
pub one_balance : (c : Arrival) → out_one c + late_one c ≡ 1 + silent_one c
one_balance Next = refl
one_balance (Ahead d) = omega arith
one_balance Jump = refl
one_balance Late = refl

pub one_silent : (c : Arrival) → silent_one c ≤ out_one c
one_silent Next = omega arith
one_silent (Ahead d) = omega arith
one_silent Jump = omega arith
one_silent Late = omega arith

pub one_reset : (c : Arrival) → reset_one c ≤ 1
one_reset Next = omega arith
one_reset (Ahead d) = omega arith
one_reset Jump = omega arith
one_reset Late = omega arith

pub silent_few : (x : Expected) (s : ℕ) → silent_one (coming_of x s) ≤ 4096
silent_few None s = omega arith
silent_few (Some e) s = by_difference (λ c. silent_one c ≤ 4096) (ahead e s) (λ z. omega arith) (λ a b. b)
    (λ a b. omega arith) (λ a. omega arith)
