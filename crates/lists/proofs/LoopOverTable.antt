-- The invariant of a loop over f 0, .., f (n - 1): going on from the present state gives what the whole loop gives
-- from the first one (`LoopOverTable`). Assumes nothing.
use mathlib.Core.Path.{◌≡◌, sym, ap, ◌∙◌}
use mathlib.Core.List.{List, [], ◌∷◌}
use Prim.Native.Nat.{ℕ, suc, ◌+◌, ◌-◌, ◌≤◌, ◌<◌, zero-le}
use native.Mathlib.Numerals.{add-one}
use native.Mathlib.Omega.{arith}
use Rattle.lists.specs.Tables.{tab}
use Rattle.lists.proofs.Tables.{tab_more, tab_none, tab_all}

-- F i s l: what comes out where the list l is gone through from place i on, in state s; so far, what is left gives
-- `whole`
module _ {S A R : Type 0} (F : ℕ → S → List A → R) (f : ℕ → A) (n : ℕ) (whole : R) where
  -- F takes one element with `step`
  pub left_more : (step : ℕ → S → A → S)
      → ((i : ℕ) (s : S) (a : A) (l : List A) → F i s (a ∷ l) ≡ F (suc i) (step i s a) l)
      → (s : S) (i : ℕ) (a : A) (t : S) → F i s (tab i (n - i) f) ≡ whole → i < n → a ≡ f i → t ≡ step i s a
      → F (i + 1) t (tab (i + 1) (n - (i + 1)) f) ≡ whole
  left_more step takes s i a t g h e et =
      ap (λ (k : ℕ). F k t rest) (add-one i)
      ∙ ap (λ (u : S). F (suc i) u rest) (et ∙ ap (step i s) e)
      ∙ sym (ap (F i s) (tab_more n i f h) ∙ takes i s (f i) rest)
      ∙ g
    where
      rest : List A
      rest = tab (i + 1) (n - (i + 1)) f

  pub left_none : (s : S) (i : ℕ) → F i s (tab i (n - i) f) ≡ whole → n ≤ i → F i s [] ≡ whole
  left_none s i g h = ap (F i s) (sym (tab_none n i f h)) ∙ g

-- the whole is gone through from 0 on
pub record LoopOverTable {S A R : Type 0} (F : ℕ → S → List A → R) (f : ℕ → A) (n : ℕ) (s₀ s : S) (i : ℕ) : Type 0 where
  pub below : i ≤ n
  pub left : F i s (tab i (n - i) f) ≡ F 0 s₀ (tab 0 n f)

module _ {S A R : Type 0} (F : ℕ → S → List A → R) (f : ℕ → A) (n : ℕ) (s₀ : S) where
  pub loop-none : LoopOverTable F f n s₀ s₀ 0
  loop-none = record { below = zero-le; left = ap (F 0 s₀) (tab_all n f) }

  pub loop-more : (step : ℕ → S → A → S)
      → ((i : ℕ) (s : S) (a : A) (l : List A) → F i s (a ∷ l) ≡ F (suc i) (step i s a) l)
      → (s : S) (i : ℕ) (a : A) (t : S) → LoopOverTable F f n s₀ s i → i < n → a ≡ f i → t ≡ step i s a
      → LoopOverTable F f n s₀ t (i + 1)
  loop-more step takes s i a t g h e et =
      record { below = omega arith; left = left_more F f n (F 0 s₀ (tab 0 n f)) step takes s i a t g.left h e et }

  pub loop-all : (s : S) (i : ℕ) → LoopOverTable F f n s₀ s i → n ≤ i → F i s [] ≡ F 0 s₀ (tab 0 n f)
  loop-all s i g = left_none F f n (F 0 s₀ (tab 0 n f)) s i g.left

  -- what F keeps of a state, the loop keeps
  pub loop-kept : {B : Type 0} (of : S → B) (after : R → B) → ((i : ℕ) (s : S) (l : List A) → after (F i s l) ≡ of s)
      → (s : S) (i : ℕ) → LoopOverTable F f n s₀ s i → of s ≡ of s₀
  loop-kept of after keeps s i g = sym (keeps i s (tab i (n - i) f)) ∙ ap after g.left ∙ keeps 0 s₀ (tab 0 n f)
