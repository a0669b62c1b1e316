-- Laws of the count of changed places: what a place counts, and what is left of it in a loop. Assumes nothing.
use Rattle.std.specs.Prelude.{◌≡◌, ◌+◌, ◌≤◌, ◌<◌}
use Rattle.lists.specs.Prelude.{ap, Bool, cond, List, ℕ, Float, ne, nan, length, get_or}
use Rattle.lists.specs.Tables.{count}
use Rattle.lists.proofs.Tables.{tab_more, tab_none}
use Rattle.probe_bank.specs.Fillings.{tap_filling, changed_at, count_changed}

pub changed_test : (i : ℕ) (x y : Float) (b : Bool) → y ≡ tap_filling i → ne x y ≡ b
    → ◌≡◌ {A = ℕ} (cond b 1 0) (cond (changed_at i x) 1 0)
unfolding changed_at
changed_test i x y b e h = cc (e, h)

module _ (xs : List Float) (i : ℕ) where
  -- from a place on: that place, and what lies behind it
  pub count_more : i < length xs
      → count_changed i xs ≡ cond (changed_at i (get_or xs i nan)) 1 0 + count_changed (i + 1) xs
  count_more h = ap count (tab_more (length xs) i (λ k. changed_at k (get_or xs k nan)) h)

  pub count_none : length xs ≤ i → count_changed i xs ≡ 0
  count_none h = ap count (tab_none (length xs) i (λ k. changed_at k (get_or xs k nan)) h)
