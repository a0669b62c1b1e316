-- Two lists, place by place. Definitions only.
use Rattle.std.specs.Prelude.{◌∷◌, List, []}

module _ {A B : Type 0} where
  -- as many of the one as of the other, and R of the two in each place
  abbrev pub Pairwise : (A → B → Type 0) → List A → List B → Type 0
  Pairwise R [] [] = Unit {0}
  Pairwise R (x ∷ xs) (y ∷ ys) = R x y × Pairwise R xs ys
  Pairwise R [] (y ∷ ys) = ⊥
  Pairwise R (x ∷ xs) [] = ⊥
