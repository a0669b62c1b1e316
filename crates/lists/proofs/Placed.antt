-- Parts that are put into a list one after the other are one part: what every loop that fills a list from a place on
-- goes by. Assumes nothing.
use mathlib.Core.Path.{◌≡◌, sym, ap, ◌∙◌}
use mathlib.Core.List.{List, [], ◌∷◌, ◌++◌, append_assoc, append-nil}
use Prim.Native.Nat.{ℕ, suc, ◌+◌, ◌≤◌, ◌<◌}
use native.Mathlib.Omega.{arith}
use lib.ListN.{length, get_or, take, drop, set, length-append, take-append-drop}
use lib.Seq.{sets, sets-eq, length-sets, set_at, take-suc, drop-drop, take_at, drop_at, length-take-le}
use Rattle.lists.specs.Placed.{placed}

module _ {A : Type 0} where
  pub placed_none : (xs : List A) (at : ℕ) → placed xs at [] ≡ xs
  unfolding placed
  placed_none xs at = let q : at + 0 ≡ at = omega arith in rw (append-nil (take at xs), q) (take-append-drop at xs)

  -- inside the list, the elements of a part stored one after another
  stores : (xs : List A) (at : ℕ) (part : List A) → at + length part ≤ length xs → sets xs at part ≡ placed xs at part
  unfolding placed
  stores xs at part = sets-eq part xs at

  pub length_placed : (xs : List A) (at : ℕ) (part : List A) → at + length part ≤ length xs
      → length (placed xs at part) ≡ length xs
  length_placed xs at part h = ap length (sym (stores xs at part h)) ∙ length-sets xs at part

  -- a part of n, and another where it ends
  pub placed_on : (xs : List A) (at n : ℕ) (a b : List A) → length a ≡ n → at + n + length b ≤ length xs
      → placed (placed xs at a) (at + n) b ≡ placed xs at (a ++ b)
  unfolding placed
  placed_on xs at n a b e h =
      let one = (take at xs ++ a) ++ drop (at + length a) xs in
      let long : length (take at xs ++ a) ≡ at + n = length-append (take at xs) a
      ∙ omega (arith, length-take-le at xs (omega arith)) in
      let same : at + length a ≡ at + n = omega arith in
      let q : at + length (a ++ b) ≡ at + n + length b = ap (λ (k : ℕ). at + k) (length-append a b) ∙ omega arith in
      let t : take (at + n) one ≡ take at xs ++ a = take_at (take at xs ++ a) (drop (at + length a) xs) (at + n) long in
      let r : drop (at + n + length b) one ≡ drop (at + n + length b) xs =
      sym (drop-drop (length b) (at + n) one) ∙ ap (drop (length b))
      (drop_at (take at xs ++ a) (drop (at + length a) xs) (at + n) long ∙ ap (λ (k : ℕ). drop k xs) same)
      ∙ drop-drop (length b) (at + n) xs in
      rw (t, r, q) (ap (λ (l : List A). l ++ drop (at + n + length b) xs) (append_assoc (take at xs) a b))

  -- a store is a part of one
  store : (xs : List A) (at : ℕ) (x : A) → at < length xs → set xs at x ≡ placed xs at (x ∷ [])
  store xs at x h = stores xs at (x ∷ []) (omega arith)

  pub store_on : (xs : List A) (at n : ℕ) (part : List A) (x : A) → length part ≡ n → at + n < length xs
      → set (placed xs at part) (at + n) x ≡ placed xs at (part ++ (x ∷ []))
  store_on xs at n part x e h =
      store (placed xs at part) (at + n) x (omega (arith, length_placed xs at part (omega arith)))
      ∙ placed_on xs at n part (x ∷ []) e (omega arith)

  pub store_before : (xs : List A) (at : ℕ) (part : List A) (x : A) → suc at + length part ≤ length xs
      → set (placed xs (suc at) part) at x ≡ placed xs at (x ∷ part)
  unfolding placed
  store_before xs at part x h =
      let old = get_or xs at x in
      let rest = drop (suc at + length part) xs in
      let inside : at < length xs = omega arith in
      let q : at + suc (length part) ≡ suc at + length part = omega arith in
      rw (
        take-suc xs at x inside,
        append_assoc (take at xs) (old ∷ []) part,
        append_assoc (take at xs) (old ∷ part) rest,
        set_at (take at xs) old (part ++ rest) x at
            (length-take-le at xs (omega arith)),
        q,
      )
      (sym (append_assoc (take at xs) (x ∷ part) rest))

  -- a part from the start on, and what is taken of it
  pub placed_start : (xs part : List A) → placed xs 0 part ≡ part ++ drop (length part) xs
  unfolding placed
  placed_start xs part = let q : 0 + length part ≡ length part = omega arith in rw q

  pub take_placed : (xs part : List A) (n : ℕ) → length part ≡ n → take n (placed xs 0 part) ≡ part
  take_placed xs part n h = ap (take n) (placed_start xs part) ∙ take_at part (drop (length part) xs) n h
