-- A part of a list moved to its start. Assumes nothing.
use Rattle.std.specs.Prelude.{◌≡◌, ◌-◌, ◌≤◌}
use Rattle.std.specs.List.{copy_within}
use Rattle.lists.specs.Prelude.{sym, ap, ◌∙◌, List, ℕ, min, arith, length, take, drop}
use Rattle.lists.specs.Prelude.{length-take-le, length-drop}
use Rattle.lists.specs.Placed.{placed}
use Rattle.lists.proofs.Lists.{drop_take, take_min}
use Rattle.lists.proofs.Placed.{placed_none}

module _ (xs : List ℕ) (from to end : ℕ) (e : end ≡ min to (length xs)) where
  kept : drop from (take to xs) ≡ take (end - from) (drop from xs)
  kept = ap (drop from) (sym (take_min xs to end e)) ∙ drop_take from end xs

  pub kept_all : copy_within xs from end 0 ≡ placed xs 0 (drop from (take to xs))
  unfolding placed
  kept_all =
      let long : length (take (end - from) (drop from xs)) ≡ end - from =
      length-take-le (end - from) (drop from xs) (omega (arith, length-drop from xs)) in
      rw (kept, long)

  pub kept_none : end ≤ from → xs ≡ placed xs 0 (drop from (take to xs))
  kept_none h =
      let nothing : end - from ≡ 0 = omega arith in
      sym (ap (placed xs 0) (kept ∙ ap (λ (k : ℕ). take k (drop from xs)) nothing) ∙ placed_none xs 0)
