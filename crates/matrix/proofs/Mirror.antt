-- Lists negated at named places, whatever their elements are: negated twice they are as they were (`negated_twice`), a
-- place is read as it was or negated (`get_or_negated`), and a function that takes one negation to another takes such
-- lists to such lists (`map_negated`). Of floats: to negate samples at some places gives the same products as to negate
-- the weights there (`products_negated`), so that a weighted sum needs no law of sums. Assumes nothing.
use Rattle.std.specs.Prelude.{◌≡◌, ◌∷◌, ◌++◌, ◌+◌}
use Rattle.lists.specs.Prelude.{refl, sym, ap, ◌∙◌, Bool, true, false, cond, List, [], map, ℕ, zero, suc, add-zero}
use Rattle.lists.specs.Prelude.{add-suc, suc-add, T, length, get_or, take, Float, binary64, mul, neg}
use lib.Ieee.Fits.{and_l, and_r}
use Rattle.formats.proofs.Signs.{mul_either}
use Rattle.lists.specs.Tables.{tab, every}
use Rattle.planes.specs.Sums.{products}
use Rattle.matrix.specs.Mirror.{negated_at}

module _ {A : Type 0} (negate : A → A) (named : ℕ → Bool) where
  pub negated_twice : ((x : A) → negate (negate x) ≡ x) → (i : ℕ) (xs : List A)
      → negated_at negate named i (negated_at negate named i xs) ≡ xs
  negated_twice twice i [] = refl
  negated_twice twice i (x ∷ xs) = cc (one (named i), negated_twice twice (suc i) xs)
    where
      one : (b : Bool) → cond b (negate (cond b (negate x) x)) (cond b (negate x) x) ≡ x
      one true = twice x
      one false = refl

  pub get_or_negated : (d : A) → negate d ≡ d → (i : ℕ) (xs : List A) (k : ℕ)
      → get_or (negated_at negate named i xs) k d ≡ cond (named (i + k)) (negate (get_or xs k d)) (get_or xs k d)
  get_or_negated d e i [] k = beyond (named (i + k))
    where
      beyond : (b : Bool) → d ≡ cond b (negate d) d
      beyond true = sym e
      beyond false = refl
  get_or_negated d e i (x ∷ xs) zero = ap (λ (j : ℕ). cond (named j) (negate x) x) (sym (add-zero i))
  get_or_negated d e i (x ∷ xs) (suc k) =
      get_or_negated d e (suc i) xs k ∙ ap (λ (j : ℕ). cond (named j) (negate (get_or xs k d)) (get_or xs k d))
      (suc-add i k ∙ sym (add-suc i k))

  pub tab_negated : (i n : ℕ) (f : ℕ → A) → negated_at negate named i (tab i n f)
      ≡ tab i n (λ (k : ℕ). cond (named k) (negate (f k)) (f k))
  tab_negated i zero f = refl
  tab_negated i (suc n) f = ap (λ (l : List A). cond (named i) (negate (f i)) (f i) ∷ l) (tab_negated (suc i) n f)

  pub negated_take : (n i : ℕ) (xs : List A) → take n (negated_at negate named i xs) ≡ negated_at negate named i
      (take n xs)
  negated_take zero i xs = refl
  negated_take (suc n) i [] = refl
  negated_take (suc n) i (x ∷ xs) = ap (λ (l : List A). cond (named i) (negate x) x ∷ l) (negated_take n (suc i) xs)

  pub negated_append : (i : ℕ) (xs ys : List A) → negated_at negate named i (xs ++ ys) ≡ negated_at negate named i xs
      ++ negated_at negate named (i + length xs) ys
  negated_append i [] ys = ap (λ (k : ℕ). negated_at negate named k ys) (sym (add-zero i))
  negated_append i (x ∷ xs) ys =
      ap (λ (l : List A). cond (named i) (negate x) x ∷ l)
      (negated_append (suc i) xs ys ∙ ap (λ (k : ℕ). negated_at negate named (suc i) xs ++ negated_at negate named k ys)
      (suc-add i (length xs) ∙ sym (add-suc i (length xs))))

  pub length_negated : (i : ℕ) (xs : List A) → length (negated_at negate named i xs) ≡ length xs
  length_negated i [] = refl
  length_negated i (x ∷ xs) = ap suc (length_negated (suc i) xs)

-- the function does so with each element that passes a test, and all of the list's do
module _ {A B : Type 0} (negate : A → A) (negate' : B → B) (f : A → B) (test : A → Bool)
    (follows : (x : A) → T (test x) → f (negate x) ≡ negate' (f x)) (named : ℕ → Bool) where
  pub map_negated : (i : ℕ) (xs : List A) → T (every test xs)
      → map f (negated_at negate named i xs) ≡ negated_at negate' named i (map f xs)
  map_negated i [] t = refl
  map_negated i (x ∷ xs) t = cc (one (named i), map_negated (suc i) xs (and_r (test x) (every test xs) t))
    where
      one : (b : Bool) → f (cond b (negate x) x) ≡ cond b (negate' (f x)) (f x)
      one true = follows x (and_l (test x) (every test xs) t)
      one false = refl

-- with every element
always : {A : Type 0} (xs : List A) → T (every (λ (x : A). true) xs)
always [] = tt
always (x ∷ xs) = always xs

module _ {A B : Type 0} (negate : A → A) (negate' : B → B) (f : A → B)
    (follows : (x : A) → f (negate x) ≡ negate' (f x)) (named : ℕ → Bool) where
  pub map_negated_each : (i : ℕ) (xs : List A) → map f (negated_at negate named i xs) ≡ negated_at negate' named i
      (map f xs)
  map_negated_each i xs = map_negated negate negate' f (λ (x : A). true) (λ x t. follows x) named i xs (always xs)

pub products_negated : (named : ℕ → Bool) (i : ℕ) (xs ws : List Float)
    → products (negated_at neg named i xs) ws ≡ products xs (negated_at neg named i ws)
products_negated named i [] ws = refl
products_negated named i (x ∷ xs) [] = refl
products_negated named i (x ∷ xs) (w ∷ ws) = cc (one (named i), products_negated named (suc i) xs ws)
  where
    one : (b : Bool) → mul binary64 (cond b (neg x) x) w ≡ mul binary64 x (cond b (neg w) w)
    one true = mul_either binary64 x w
    one false = refl
