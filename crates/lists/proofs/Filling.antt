-- A list filled place by place: from a place on it holds the table, as far as that has come, and elsewhere what it
-- held. Assumes nothing.
use mathlib.Core.Path.{◌≡◌, refl, sym, ap, ◌∙◌}
use mathlib.Core.Bool.{Bool, cond}
use mathlib.Core.List.{List, [], ◌∷◌, ◌++◌, append-nil}
use Prim.Native.Nat.{ℕ, ◌+◌, ◌-◌, ◌≤◌, ◌<◌, zero-le}
use native.Mathlib.Nat.{add-sub_of_le, zero-add}
use native.Mathlib.Numerals.{add-one}
use native.Mathlib.Omega.{arith}
use borrow.Author.Tests.{lt-ltb, le-ltb}
use lib.Dec.{ltb}
use lib.ListN.{length, get_or, set, drop, replicate, length-set}
use lib.Seq.{drop-length}
use Rattle.std.proofs.lemmas.List.{get_or-append_right, get_or-drop}
use Rattle.lists.specs.Tables.{tab}
use Rattle.lists.specs.Placed.{placed}
use Rattle.lists.proofs.Lists.{drop_replicate}
use Rattle.lists.proofs.Tables.{length_tab, tab_from, tab_append, tab_snoc, tab_constant}
use Rattle.lists.proofs.Placed.{placed_none, length_placed, store_on, placed_start}

-- ---- from a place on: the next value is put behind those that stand there

module _ {A : Type 0} (f : ℕ → A) (xs : List A) (q : ℕ) where
  pub fill_kept : (ys : List A) (k : ℕ) → ys ≡ placed xs q (tab 0 k f) → q + k ≤ length xs → length ys ≡ length xs
  fill_kept ys k e h = ap length e ∙ length_placed xs q (tab 0 k f) (omega (arith, length_tab 0 k f))

  pub fill_more : (ys : List A) (k : ℕ) (x : A) → ys ≡ placed xs q (tab 0 k f) → q + k < length xs → x ≡ f k
      → set ys (q + k) x ≡ placed xs q (tab 0 (k + 1) f)
  fill_more ys k x e h g =
      let more : tab 0 k f ++ (x ∷ []) ≡ tab 0 (k + 1) f = rw (add-one k, g ∙ ap f (sym (zero-add k)))
      (sym (tab_snoc 0 k f)) in
      rw e (store_on xs q k (tab 0 k f) x (length_tab 0 k f) h ∙ ap (placed xs q) more)

-- ---- from the start on

module _ {A : Type 0} where
  -- m places of one value, of which the first n are filled
  pub first_filled : (f : ℕ → A) (n m : ℕ) (a : A) → n ≤ m
      → tab 0 n f ++ drop n (replicate m a) ≡ tab 0 m (λ k. cond (ltb k n) (f k) a)
  first_filled f n m a h =
      cc (tab_from 0 n f at (λ k l u. sym (ap (λ (b : Bool). cond b (f k) a) (lt-ltb k n (omega arith)))), rest)
      ∙ sym (ap (λ (k : ℕ). tab 0 k at) (sym (add-sub_of_le h)) ∙ tab_append 0 n (m - n) at
      ∙ ap (λ (k : ℕ). tab 0 n at ++ tab k (m - n) at) (zero-add n))
    where
      at : ℕ → A
      at k = cond (ltb k n) (f k) a

      rest : drop n (replicate m a) ≡ tab n (m - n) at
      rest = drop_replicate n m a ∙ sym (tab_constant n (m - n) a)
          ∙ tab_from n (m - n) (λ k. a) at (λ k l u. sym (ap (λ (b : Bool). cond b (f k) a) (le-ltb k n l)))

-- the first n places of a list are filled with f 0, f 1, .., those before i so far
pub record Filling {A : Type 0} (f : ℕ → A) (n : ℕ) (l₀ l : List A) (i : ℕ) : Type 0 where
  pub below : i ≤ n
  pub same : length l ≡ length l₀
  filled : l ≡ placed l₀ 0 (tab 0 i f)

module _ {A : Type 0} (f : ℕ → A) (n : ℕ) (l₀ : List A) where
  pub filling_none : Filling f n l₀ l₀ 0
  filling_none = record { below = zero-le; same = refl; filled = sym (placed_none l₀ 0) }

  pub filling_more : (l : List A) (i : ℕ) (x : A) → Filling f n l₀ l i → i < n → n ≤ length l₀ → x ≡ f i
      → Filling f n l₀ (set l i x) (i + 1)
  filling_more l i x p h room e =
      record {
        below = omega arith;
        same = length-set l i x ∙ p.same;
        filled = ap (λ (k : ℕ). set l k x) (sym (zero-add i)) ∙ fill_more f l₀ 0 l i x p.filled (omega arith) e;
      }

  -- what is still to be filled is as it was
  pub filling_ahead : (l : List A) (i k : ℕ) (d : A) → Filling f n l₀ l i → i ≤ k → get_or l k d ≡ get_or l₀ k d
  filling_ahead l i k d p h =
      let at : i + (k - i) ≡ k = omega arith in
      ap (λ (m : List A). get_or m k d) (p.filled ∙ placed_start l₀ (tab 0 i f)
      ∙ ap (λ (m : ℕ). tab 0 i f ++ drop m l₀) (length_tab 0 i f))
      ∙ get_or-append_right (tab 0 i f) (drop i l₀) i k d (length_tab 0 i f) h
      ∙ get_or-drop i l₀ (k - i) d ∙ ap (λ (m : ℕ). get_or l₀ m d) at

  pub filling_all : (l : List A) (i : ℕ) → Filling f n l₀ l i → n ≤ i → l ≡ tab 0 n f ++ drop n l₀
  filling_all l i p h =
      let e : i ≡ n = omega (arith, p.below) in
      p.filled ∙ ap (λ (k : ℕ). placed l₀ 0 (tab 0 k f)) e ∙ placed_start l₀ (tab 0 n f)
      ∙ ap (λ (k : ℕ). tab 0 n f ++ drop k l₀) (length_tab 0 n f)

  -- where that is the whole list
  pub filling_whole : (l : List A) (i : ℕ) → Filling f n l₀ l i → n ≤ i → n ≡ length l₀ → l ≡ tab 0 n f
  filling_whole l i p h e =
      filling_all l i p h ∙ ap (λ (k : ℕ). tab 0 n f ++ drop k l₀) e
      ∙ ap (λ (m : List A). tab 0 n f ++ m) (drop-length l₀) ∙ append-nil (tab 0 n f)
