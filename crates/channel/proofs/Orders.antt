-- The orders 1, 2 and 3, the numbers that are none, a choice by the order, and how many channels an order has. Assumes
-- nothing.
use Rattle.std.specs.Prelude.{◌≡◌, ◌<◌, ◌≤◌, Err}
use Rattle.lists.specs.Prelude.{refl, sym, ap, ◌∙◌, Bool, true, false, true≢false, ℕ, zero, suc, arith, eqb, lit<, lit≤}
use Rattle.lists.proofs.Tests.{cond_cases}
use Rattle.refusals.proofs.Counts.{count_above}
use Rattle.refusals.specs.declared.Refusal.{Refusal}
use Rattle.refusals.specs.declared.Refusal.TheVariants.{Order}
use Rattle.refusals.specs.Numbers.{number_of}
use Rattle.refusals.proofs.Numbers.{number_above, number_apart}
use Rattle.channel.specs.Layouts.{channels_answer}
use Rattle.channel.specs.Orders.{refuses_order, channels_of_order, counted_order, by_order}
use Rattle.channel.specs.Layouts.{CountTold, count_told}
use Rattle.channel.proofs.Counts.{well, ill}

-- what holds of 1, 2 and 3 holds of every order that is not refused
pub by_order_lem : (P : ℕ → Type 0) → P 1 → P 2 → P 3 → (n : ℕ) → refuses_order n ≡ false → P n
by_order_lem P a b c zero h = absurd (true≢false h)
by_order_lem P a b c (suc zero) h = a
by_order_lem P a b c (suc (suc zero)) h = b
by_order_lem P a b c (suc (suc (suc zero))) h = c
by_order_lem P a b c (suc (suc (suc (suc n)))) h =
    absurd (true≢false (sym (count_above (suc (suc (suc (suc n)))) 3 (omega arith)) ∙ h))

-- and of the last, what is neither of the others
pub third_order : (n : ℕ) → refuses_order n ≡ false → (n ≡ 1 → ⊥) → (n ≡ 2 → ⊥) → n ≡ 3
third_order = by_order_lem (λ (n : ℕ). (n ≡ 1 → ⊥) → (n ≡ 2 → ⊥) → n ≡ 3) (λ a b. absurd (a refl))
    (λ a b. absurd (b refl))
    (λ a b. refl)

-- what holds of three holds of the one that a number chooses, order or not
pub one_of_three : {X : Type 0} (P : X → Type 0) {a b c : X} → P a → P b → P c → (n : ℕ) → P (by_order n a b c)
one_of_three P x y z n = cond_cases P (eqb n 1) x (cond_cases P (eqb n 2) y z)

-- ---- channels: from 4 to 16
pub few_channels : (n : ℕ) → refuses_order n ≡ false → (0 < channels_of_order n) × (channels_of_order n ≤ 16)
few_channels = by_order_lem (λ (n : ℕ). (0 < channels_of_order n) × (channels_of_order n ≤ 16)) (lit< tt, lit≤ tt)
    (lit< tt, lit≤ tt) (lit< tt, lit≤ tt)

pub order_well : (n : ℕ) (c : CountTold) → c ≡ counted_order n → c.refusal ≡ 0
    → (refuses_order n ≡ false) × (c.channels ≡ channels_of_order n)
order_well n = well 0 (refuses_order n) (channels_of_order n)

pub order_ill : (n : ℕ) (c : CountTold) → c ≡ counted_order n → (c.refusal ≡ 0 → ⊥) → refuses_order n ≡ true
order_ill n = ill 0 (refuses_order n) (channels_of_order n)

-- what the program answers, by the test
pub order_counted : (n : ℕ) (b : Bool) → b ≡ refuses_order n → channels_answer 1 b (channels_of_order n)
    ≡ counted_order n
order_counted n b e = ap (λ (t : Bool). channels_answer 1 t (channels_of_order n)) e

-- who is told a refusal knows why
pub order_refused : (n : ℕ) (r : Refusal) → count_told (Err r) ≡ counted_order n
    → (refuses_order n ≡ true) × (r ≡ Order)
order_refused n r e =
    let above : 0 < number_of r = number_above r in
    let h = order_ill n (count_told (Err r)) e (λ z. omega arith) in (
      h,
      number_apart r Order (ap (λ (c : CountTold). c.refusal)
          (e ∙ ap (λ (t : Bool). channels_answer 1 t (channels_of_order n)) h)),
    )
