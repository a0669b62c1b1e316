-- How many channels a layout has, by the test of their number; what a caller learns from a count, of a layout or of an
-- order; and what holds of 5.1 and 7.1. Assumes nothing.
use Rattle.std.specs.Prelude.{◌≡◌, ◌≤◌, ◌<◌, Err}
use Rattle.lists.specs.Prelude.{refl, sym, ap, ◌∙◌, Bool, true, false, cond, false≢true, ℕ, suc, arith, lit<, lit≤}
use Rattle.refusals.proofs.First.{passed, answered_number}
use Rattle.refusals.specs.declared.Refusal.{Refusal}
use Rattle.refusals.specs.declared.Refusal.TheVariants.{Count}
use Rattle.refusals.specs.Numbers.{number_of}
use Rattle.refusals.proofs.Numbers.{number_above, number_apart}
use Rattle.channel.specs.Layouts.{channels_answer, channels_of, refuses_channels, layout_channels, surround}
use Rattle.channel.specs.declared.Layout.{Layout}
use Rattle.channel.specs.declared.Layout.TheVariants.{Mono, Stereo, Surround51, Surround71, Custom}
use Rattle.channel.specs.Layouts.{CountTold, count_told}

-- n is how many the layout would have, and b whether that is refused
pub layout_counted : (l : Layout) (n : ℕ) (b : Bool) → n ≡ channels_of l → refuses_channels n ≡ b
    → channels_answer 2 b n ≡ layout_channels l
layout_counted l n b e h = ap (λ (t : Bool). channels_answer 2 t n) (sym h)
    ∙ ap (λ (k : ℕ). channels_answer 2 (refuses_channels k) k) e

-- ---- what a caller learns from a count

-- by whether it was refused, with a number above 0
module _ (r : ℕ) (refused : Bool) (n : ℕ) (c : CountTold) (e : c ≡ channels_answer (suc r) refused n) where
  refusal_is : c.refusal ≡ cond refused (suc r) 0
  refusal_is =
      ap (λ (x : CountTold). x.refusal) e
      ∙ answered_number (record { refusal = 0; channels = n }) (λ k. record { refusal = k; channels = 0 })
      (λ (x : CountTold). x.refusal) refl (cond refused (suc r) 0) refl

  pub well : c.refusal ≡ 0 → (refused ≡ false) × (c.channels ≡ n)
  well z = let h = (passed refused r 0 (sym refusal_is ∙ z)).0 in
      (h, ap (λ (x : CountTold). x.channels) (e ∙ ap (λ (b : Bool). channels_answer (suc r) b n) h))

  pub ill : (c.refusal ≡ 0 → ⊥) → refused ≡ true
  ill z = go refused refusal_is
    where
      go : (b : Bool) → c.refusal ≡ cond b (suc r) 0 → b ≡ true
      go true h = refl
      go false h = absurd (z h)

pub channels_accepted : (l : Layout) (c : CountTold) → c ≡ layout_channels l → c.refusal ≡ 0
    → (refuses_channels (channels_of l) ≡ false)
    × (c.channels ≡ channels_of l)
channels_accepted l = well 1 (refuses_channels (channels_of l)) (channels_of l)

pub channels_refused : (l : Layout) (c : CountTold) → c ≡ layout_channels l → (c.refusal ≡ 0 → ⊥)
    → refuses_channels (channels_of l) ≡ true
channels_refused l = ill 1 (refuses_channels (channels_of l)) (channels_of l)

-- who is told a refusal knows why
pub layout_refused : (l : Layout) (r : Refusal) → count_told (Err r) ≡ layout_channels l
    → (refuses_channels (channels_of l) ≡ true) × (r ≡ Count)
layout_refused l r e =
    let above : 0 < number_of r = number_above r in
    let h = channels_refused l (count_told (Err r)) e (λ z. omega arith) in (
      h,
      number_apart r Count (ap (λ (c : CountTold). c.refusal)
          (e ∙ ap (λ (t : Bool). channels_answer 2 t (channels_of l)) h)),
    )

-- ---- the layouts that surround

-- what holds of 5.1 and of 7.1 holds of every layout that surrounds
pub by_surround : (P : Layout → Type 0) → P Surround51 → P Surround71 → (l : Layout) → surround l ≡ true → P l
by_surround P a b Surround51 e = a
by_surround P a b Surround71 e = b
by_surround P a b Mono e = absurd (false≢true e)
by_surround P a b Stereo e = absurd (false≢true e)
by_surround P a b (Custom n) e = absurd (false≢true e)

pub surround_counted : (l : Layout) → surround l ≡ true → (layout_channels l).channels ≡ channels_of l
surround_counted = by_surround (λ (l : Layout). (layout_channels l).channels ≡ channels_of l) refl refl

pub surround_few : (l : Layout) → surround l ≡ true → (0 < channels_of l) × (channels_of l ≤ 8)
surround_few =
    by_surround (λ (l : Layout). (0 < channels_of l) × (channels_of l ≤ 8)) (lit< tt, lit≤ tt) (lit< tt, lit≤ tt)
