-- Lists of which each element is of a kind: shown of those that are there (`forall_in`), of a test that each passes,
-- and of a list's parts. Assumes nothing.
use mathlib.Core.Path.{◌≡◌}
use mathlib.Core.Bool.{Bool, true}
use mathlib.Core.List.{List, [], ◌∷◌, ◌++◌}
use Prim.Native.Nat.{ℕ, zero, suc, ◌+◌, ◌<◌}
use native.Mathlib.Decide.{dec_lt}
use native.Mathlib.Omega.{arith}
use lib.ListN.{length, get_or, take, drop, replicate, length-take, length-replicate, get_or-replicate}
use lib.ListN.{get_or-eq_default}
use lib.Seq.{get_or-take, get_or-drop}
use Rattle.lists.specs.Tables.{every}
use Rattle.lists.specs.ForAll.{ForAll}
use Rattle.lists.proofs.Every.{every_at}

module _ {A : Type 0} (P : A → Type 0) (d : A) where
  pub forall_in : (xs : List A) → P d → ((i : ℕ) → i < length xs → P (get_or xs i d)) → ForAll P d xs
  forall_in xs k h i =
      elim (dec_lt i (length xs)) [
        | yes g ↦ h i g
        | no g ↦ rw (get_or-eq_default xs d {n = i} (omega arith)) k
      ]

  pub forall_every : (p : A → Bool) → ((x : A) → p x ≡ true → P x) → P d → (xs : List A) → every p xs ≡ true
      → ForAll P d xs
  forall_every p f k xs h = forall_in xs k (λ i g. f (get_or xs i d) (every_at p xs d i h g))

  pub forall_drop : (m : ℕ) (xs : List A) → ForAll P d xs → ForAll P d (drop m xs)
  forall_drop m xs h i = rw (get_or-drop m xs i d) (h (m + i))

  pub forall_take : (m : ℕ) (xs : List A) → P d → ForAll P d xs → ForAll P d (take m xs)
  forall_take m xs k h =
      forall_in (take m xs) k (λ i g. rw (get_or-take m xs i d (omega (arith, length-take m xs))) (h i))

  pub forall_append : (xs ys : List A) → ForAll P d xs → ForAll P d ys → ForAll P d (xs ++ ys)
  forall_append [] ys f g = g
  forall_append (x ∷ xs) ys f g = elim [
    | zero ↦ f 0
    | suc i ↦ forall_append xs ys (λ j. f (suc j)) g i
  ]

  pub forall_replicate : (n : ℕ) → P d → ForAll P d (replicate n d)
  forall_replicate n k =
      forall_in (replicate n d) k (λ i h. rw (get_or-replicate n i d d (omega (arith, h, length-replicate n d))) k)
