-- What is so of every element of a list: of two lists joined, of a test that says the same, and of the element at a
-- place, or of what stands where the list ends. Assumes nothing.
use mathlib.Core.Path.{◌≡◌, refl, sym}
use mathlib.Core.Bool.{Bool, true, ◌&&◌, and-eq-true_iff, and_assoc}
use mathlib.Core.List.{List, [], ◌∷◌, ◌++◌}
use Prim.Native.Nat.{ℕ, zero, suc, ◌<◌}
use native.Mathlib.Nat.{le_of_suc-le-suc}
use native.Mathlib.Omega.{arith}
use lib.Dec.{T}
use lib.ListN.{length, get_or}
use lib.Ieee.Fits.{and_l, and_r}
use Rattle.lists.specs.Tables.{every}

module _ {A : Type 0} where
  pub every_append : (p : A → Bool) (xs ys : List A) → every p (xs ++ ys) ≡ (every p xs && every p ys)
  every_append p [] ys = refl
  every_append p (x ∷ xs) ys = rw (every_append p xs ys) (sym (and_assoc (p x) (every p xs) (every p ys)))

  pub every_at : (p : A → Bool) (xs : List A) (d : A) (i : ℕ) → every p xs ≡ true → i < length xs
      → p (get_or xs i d) ≡ true
  every_at p [] d i h g = absurd (omega arith)
  every_at p (x ∷ xs) d zero h g = ((and-eq-true_iff (p x) (every p xs)).0 h).0
  every_at p (x ∷ xs) d (suc i) h g =
      every_at p xs d i ((and-eq-true_iff (p x) (every p xs)).0 h).1 (le_of_suc-le-suc g)

  pub every_holds : (p : A → Bool) (xs : List A) (d : A) → T (p d) → T (every p xs) → (i : ℕ) → T (p (get_or xs i d))
  every_holds p [] d o t i = o
  every_holds p (x ∷ xs) d o t zero = and_l (p x) (every p xs) t
  every_holds p (x ∷ xs) d o t (suc i) = every_holds p xs d o (and_r (p x) (every p xs) t) i
