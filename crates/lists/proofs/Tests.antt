-- Laws of `cond` (`cond_true`, `cond_false`), case splits on a test and on two numbers, and a list of tests that all
-- hold. Assumes nothing.
use mathlib.Core.Path.{◌≡◌, refl, ap}
use mathlib.Core.Logic.{⊎_elim}
use mathlib.Core.Bool.{Bool, true, false, cond}
use mathlib.Core.List.{List, [], ◌∷◌}
use Prim.Native.Nat.{ℕ, ◌≤◌, ◌<◌}
use native.Mathlib.Nat.{le_antisymm}
use lib.Dec.{T, ltb, leb}
use lib.Ieee.Fits.{and_l, and_r}
use borrow.Author.Tests.{ltb-true, ltb-false, leb-true, leb-false}
use Rattle.lists.specs.Tables.{every}
use Rattle.lists.proofs.Lists.{less_or_at_most}

-- over the type of what is chosen, so that answers go by them as numbers do
pub cond_true : {A : Type 0} {b : Bool} (x y : A) → b ≡ true → cond b x y ≡ x
cond_true {A} x y h = ap (λ (t : Bool). cond t x y) h

pub cond_false : {A : Type 0} {b : Bool} (x y : A) → b ≡ false → cond b x y ≡ y
cond_false {A} x y h = ap (λ (t : Bool). cond t x y) h

pub by_test : (P : Bool → Type 0) (b : Bool) → (b ≡ true → P true) → (b ≡ false → P false) → P b
by_test P true f g = f refl
by_test P false f g = g refl

-- what does not name the test
pub test_cases : {C : Type 0} (b : Bool) → (b ≡ true → C) → (b ≡ false → C) → C
test_cases {C = C} b f g = by_test (λ _. C) b f g

-- ---- of one of two, x and y

module _ {A : Type 0} (P : A → Type 0) {x y : A} where
  -- whatever the test says
  pub cond_cases : (b : Bool) → P x → P y → P (cond b x y)
  cond_cases b p q = by_test (λ b. P (cond b x y)) b (λ e. p) (λ e. q)

  -- by which of two numbers is the less
  pub by_less : (m n : ℕ) → (m < n → P x) → (n ≤ m → P y) → P (cond (ltb m n) x y)
  by_less m n f g = by_test (λ b. P (cond b x y)) (ltb m n) (λ e. f (ltb-true m n e)) (λ e. g (ltb-false m n e))

  pub by_at_most : (m n : ℕ) → (m ≤ n → P x) → (n < m → P y) → P (cond (leb m n) x y)
  by_at_most m n f g = by_test (λ b. P (cond b x y)) (leb m n) (λ e. f (leb-true m n e)) (λ e. g (leb-false m n e))

-- ---- of two numbers one is the less, or they are equal
pub order_cases : {C : Type 0} (a b : ℕ) → (a < b → C) → (a ≡ b → C) → (b < a → C) → C
order_cases a b f g h = ⊎_elim f (λ (l : b ≤ a). ⊎_elim h (λ (m : a ≤ b). g (le_antisymm m l)) (less_or_at_most b a))
    (less_or_at_most a b)

-- ---- tests that are listed: where all of them hold each does
abbrev pub all : List Bool → Bool
all bs = every (λ b. b) bs

abbrev pub Hold : List Bool → Type 0
Hold [] = Unit {0}
Hold (b ∷ bs) = T b × Hold bs

pub each_holds : (bs : List Bool) → T (all bs) → Hold bs
each_holds [] t = tt
each_holds (b ∷ bs) t = (and_l b (all bs) t, each_holds bs (and_r b (all bs) t))
