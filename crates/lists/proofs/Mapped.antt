-- A function goes through the first places of a list, and through a table. Assumes nothing.
use mathlib.Core.Path.{◌≡◌, refl, ap}
use mathlib.Core.List.{List, [], ◌∷◌, map}
use Prim.Native.Nat.{ℕ, zero, suc}
use lib.ListN.{take}
use Rattle.lists.specs.Tables.{tab}

module _ {A B : Type 0} (f : A → B) where
  pub map_take : (n : ℕ) (xs : List A) → map f (take n xs) ≡ take n (map f xs)
  map_take zero xs = refl
  map_take (suc n) [] = refl
  map_take (suc n) (x ∷ xs) = ap (λ (l : List B). f x ∷ l) (map_take n xs)

  pub map_tab : (i n : ℕ) (g : ℕ → A) → map f (tab i n g) ≡ tab i n (λ (k : ℕ). f (g k))
  map_tab i zero g = refl
  map_tab i (suc n) g = ap (λ (l : List B). f (g i) ∷ l) (map_tab (suc i) n g)
