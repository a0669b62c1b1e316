-- Laws of lists that the library lacks: a place beyond the end, what is left of a part, a list read backwards, and a
-- list of one value. Assumes nothing.
use mathlib.Core.Path.{◌≡◌, refl, sym, ap, ◌∙◌}
use mathlib.Core.Bool.{Bool, true, false, cond}
use mathlib.Core.Logic.{◌⊎◌, inl, inr, ⊎_elim}
use mathlib.Core.List.{List, [], ◌∷◌, ◌++◌, reverse, reverse-cons}
use Prim.Native.Nat.{ℕ, zero, suc, ◌+◌, ◌-◌, ◌≤◌, ◌<◌, min, zero-le, suc-le-suc}
use native.Mathlib.Nat.{not-suc-le-zero, le_of_suc-le-suc, sub-zero, zero-sub, suc-sub-suc}
use native.Mathlib.Omega.{arith}
use lib.ListN.{length, get_or, set, take, drop, replicate, length-reverse, length-replicate, get_or-replicate}
use lib.ListN.{drop_of_length-le, get_or-append, get_or-eq_default}
use lib.Seq.{get_or-append-add, set_out, take_all, take-nil, ext_get_or}

-- of two numbers the first is below the second, or it is not
pub less_or_at_most : (a b : ℕ) → (a < b) ⊎ (b ≤ a)
less_or_at_most a zero = inr zero-le
less_or_at_most zero (suc b) = inl (suc-le-suc zero-le)
less_or_at_most (suc a) (suc b) = ⊎_elim (λ p. inl (suc-le-suc p)) (λ q. inr (suc-le-suc q)) (less_or_at_most a b)

-- a test counts for one at the most
pub one_at_most : (b : Bool) → cond b 1 0 ≤ 1
one_at_most true = omega arith
one_at_most false = omega arith

-- what is the same at every place from n on is the same at the place that is cut to n
end_min : {B : Type 0} (n : ℕ) (f : ℕ → B) (z : B) → ((j : ℕ) → n ≤ j → f j ≡ z) → (i k : ℕ) → k ≡ min i n → f k ≡ f i
end_min n f z beyond i k e =
    ⊎_elim
    (λ (near : i < n). let same : k ≡ i = omega arith in ap f same)
    (λ (far : n ≤ i). beyond k (omega arith) ∙ sym (beyond i far))
    (less_or_at_most i n)

module _ {A : Type 0} where
  -- so a place beyond the list may as well be its end: reading there gives the default, and writing changes nothing

  pub get_or_min : (l : List A) (i k : ℕ) (d : A) → k ≡ min i (length l) → get_or l k d ≡ get_or l i d
  get_or_min l i k d = end_min (length l) (λ j. get_or l j d) d (λ j far. get_or-eq_default l d far) i k

  pub set_min : (l : List A) (i k : ℕ) (a : A) → k ≡ min i (length l) → set l k a ≡ set l i a
  set_min l i k a = end_min (length l) (λ j. set l j a) l (λ j far. set_out l j a far) i k

  pub drop_min : (l : List A) (i k : ℕ) → k ≡ min i (length l) → drop k l ≡ drop i l
  drop_min l i k = end_min (length l) (λ j. drop j l) [] (λ j far. drop_of_length-le l far) i k

  pub take_min : (l : List A) (i k : ℕ) → k ≡ min i (length l) → take k l ≡ take i l
  take_min l i k = end_min (length l) (λ j. take j l) l (λ j far. take_all j l far) i k

  -- what is left of the first places is the first of what is left
  pub drop_take : (k m : ℕ) (l : List A) → drop k (take m l) ≡ take (m - k) (drop k l)
  drop_take zero m l = ap (λ (n : ℕ). take n l) (sym (sub-zero m))
  drop_take (suc k) zero l = ap (λ (n : ℕ). take n (drop (suc k) l)) (sym (zero-sub (suc k)))
  drop_take (suc k) (suc m) [] = sym (take-nil (suc m - suc k))
  drop_take (suc k) (suc m) (x ∷ xs) = drop_take k m xs ∙ ap (λ (n : ℕ). take n (drop k xs)) (sym (suc-sub-suc m k))

  pub get_d_reverse : (l : List A) (k : ℕ) (d : A) → k < length l → get_or (reverse l) k d
      ≡ get_or l (length l - 1 - k) d
  get_d_reverse [] k d h = absurd (not-suc-le-zero h)
  get_d_reverse (x ∷ xs) k d h =
      ap (λ (r : List A). get_or r k d) (reverse-cons x xs) ∙ ⊎_elim
      (λ (lt : k < length xs).
      let inner : suc (length xs - 1 - k) ≡ suc (length xs) - 1 - k = omega arith in
      get_or-append (reverse xs) (x ∷ []) d k (rw length-reverse lt)
      ∙ get_d_reverse xs k d lt ∙ ap (λ (i : ℕ). get_or (x ∷ xs) i d) inner)
      (λ (ge : length xs ≤ k).
      let outer : k ≡ length (reverse xs) + 0 = rw length-reverse (omega arith) in
      let last : 0 ≡ suc (length xs) - 1 - k = omega arith in
      ap (λ (i : ℕ). get_or (reverse xs ++ (x ∷ [])) i d) outer
      ∙ get_or-append-add (reverse xs) (x ∷ []) 0 d ∙ ap (λ (i : ℕ). get_or (x ∷ xs) i d) last)
      (less_or_at_most k (length xs))

  pub reverse_replicate : (n : ℕ) (a : A) → reverse (replicate n a) ≡ replicate n a
  reverse_replicate n a =
      ext_get_or a (reverse (replicate n a)) (replicate n a) (length-reverse (replicate n a))
      (λ k lt. let k<n : k < n = omega (arith, lt, length-reverse (replicate n a), length-replicate n a) in
      get_d_reverse (replicate n a) k a (omega (arith, length-replicate n a))
      ∙ get_or-replicate n (length (replicate n a) - 1 - k) a a (omega (arith, length-replicate n a))
      ∙ sym (get_or-replicate n k a a k<n))

  pub replicate_at : (n k : ℕ) (a : A) → get_or (replicate n a) k a ≡ a
  replicate_at zero k a = refl
  replicate_at (suc n) zero a = refl
  replicate_at (suc n) (suc k) a = replicate_at n k a

  pub take_replicate : (k n : ℕ) (a : A) → k ≤ n → take k (replicate n a) ≡ replicate k a
  take_replicate zero n a h = refl
  take_replicate (suc k) zero a h = absurd (not-suc-le-zero h)
  take_replicate (suc k) (suc n) a h = ap (λ (r : List A). a ∷ r) (take_replicate k n a (le_of_suc-le-suc h))

  pub drop_replicate : (k n : ℕ) (a : A) → drop k (replicate n a) ≡ replicate (n - k) a
  drop_replicate zero n a = ap (λ (m : ℕ). replicate m a) (sym (sub-zero n))
  drop_replicate (suc k) zero a = ap (λ (m : ℕ). replicate m a) (sym (zero-sub (suc k)))
  drop_replicate (suc k) (suc n) a = drop_replicate k n a ∙ ap (λ (m : ℕ). replicate m a) (sym (suc-sub-suc n k))
