-- Lists that are joined, one for each element of another: `flat_map`. Assumes nothing.
use mathlib.Core.Path.{◌≡◌, refl, sym, ap, ◌∙◌}
use mathlib.Core.List.{List, [], ◌∷◌, ◌++◌, flat_map, append-nil, append_assoc}
use Prim.Native.Nat.{ℕ, ◌*◌}
use native.Mathlib.Omega.{arith}
use lib.ListN.{length, length-append}

module _ {A B : Type 0} (f : A → List B) where
  pub joined_none : flat_map f [] ≡ []
  unfolding flat_map
  joined_none = refl

  pub joined_more : (x : A) (xs : List A) → flat_map f (x ∷ xs) ≡ f x ++ flat_map f xs
  unfolding flat_map
  joined_more x xs = refl

  pub joined_append : (xs ys : List A) → flat_map f (xs ++ ys) ≡ flat_map f xs ++ flat_map f ys
  unfolding flat_map
  joined_append [] ys = refl
  joined_append (x ∷ xs) ys =
      ap (λ (t : List B). f x ++ t) (joined_append xs ys) ∙ sym (append_assoc (f x) (flat_map f xs) (flat_map f ys))

  pub joined_one : (x : A) → flat_map f (x ∷ []) ≡ f x
  unfolding flat_map
  joined_one x = append-nil (f x)

  pub joined_snoc : (xs : List A) (x : A) → flat_map f (xs ++ (x ∷ [])) ≡ flat_map f xs ++ f x
  joined_snoc xs x = joined_append xs (x ∷ []) ∙ ap (λ (t : List B). flat_map f xs ++ t) (joined_one x)

  -- each of the same length
  pub length_joined : (w : ℕ) → ((x : A) → length (f x) ≡ w) → (xs : List A) → length (flat_map f xs) ≡ length xs * w
  unfolding flat_map
  length_joined w e [] = omega arith
  length_joined w e (x ∷ xs) = length-append (f x) (flat_map f xs) ∙ omega (arith, e x, length_joined w e xs)
