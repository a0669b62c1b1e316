-- The test of a count: what it says of one that passes, and which counts it refuses. Assumes nothing.
use Rattle.std.specs.Prelude.{◌≡◌, ◌≤◌, ◌<◌}
use Rattle.lists.specs.Prelude.{ap, ◌∙◌, true, false, not, ℕ, dec_lt, arith, not-false, lt-leb, le-leb, lt-ltb, le-ltb}
use Rattle.lists.specs.Prelude.{ltb}
use Rattle.refusals.specs.Refusals.{outside}
use Rattle.refusals.proofs.Ranges.{within_true, within_low, within_from, within_in}

module _ (n top : ℕ) where
  pub not_outside : outside n top ≡ false → (0 < n) × (n ≤ top)
  not_outside e = within_true 1 top n (not-false _ e)

  pub count_none : n ≡ 0 → outside n top ≡ true
  count_none e = ap not (within_low 1 top n (omega arith))

  -- any other is judged by the top
  pub count_some : (n ≡ 0 → ⊥) → outside n top ≡ ltb top n
  count_some h =
      ap not (within_from 1 top n (omega arith)) ∙ elim (dec_lt top n) [
        | yes l ↦ rw (lt-leb n top l, lt-ltb top n l)
        | no l ↦ rw (le-leb n top (omega arith), le-ltb top n (omega arith))
      ]

  pub count_inside : 0 < n → n ≤ top → outside n top ≡ false
  count_inside some most = ap not (within_in 1 top n some most)

  pub count_above : top < n → outside n top ≡ true
  count_above h = count_some (λ e. omega arith) ∙ lt-ltb top n h
