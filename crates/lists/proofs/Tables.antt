-- Laws of tables and chunks: what a table holds, that it is known by its places, what is left of it in a loop, and
-- where a chunk begins and ends. Assumes nothing.
use mathlib.Core.Path.{◌≡◌, refl, sym, ap, ◌∙◌}
use mathlib.Core.List.{List, [], ◌∷◌, ◌++◌}
use Prim.Native.Nat.{ℕ, zero, suc, ◌+◌, ◌-◌, ◌*◌, ◌≤◌, ◌<◌}
use native.Mathlib.Nat.{le_refl, not-suc-le-zero, le_of_suc-le-suc, add-zero, zero-add, add-suc, suc-add, sub-zero}
use native.Mathlib.Nat.{add-sub_cancel_left, mul-le-mul_right, suc-mul}
use native.Mathlib.Numerals.{add-one}
use native.Mathlib.Omega.{arith}
use lib.Arith.{digits_lt}
use lib.ListN.{length, get_or, take, drop, replicate, length-drop}
use lib.Seq.{length-take-le}
use Rattle.lists.specs.Tables.{tab, chunk}

module _ {A : Type 0} where
  pub length_tab : (i n : ℕ) (f : ℕ → A) → length (tab i n f) ≡ n
  length_tab i zero f = refl
  length_tab i (suc n) f = ap suc (length_tab (suc i) n f)

  pub get_or_tab : (i n : ℕ) (f : ℕ → A) (k : ℕ) (d : A) → k < n → get_or (tab i n f) k d ≡ f (i + k)
  get_or_tab i zero f k d h = absurd (not-suc-le-zero h)
  get_or_tab i (suc n) f zero d h = ap f (sym (add-zero i))
  get_or_tab i (suc n) f (suc k) d h =
      get_or_tab (suc i) n f k d (le_of_suc-le-suc h) ∙ ap f (suc-add i k ∙ sym (add-suc i k))

  -- of a table from 0 on
  pub get_or_table : (n : ℕ) (f : ℕ → A) (k : ℕ) (d : A) → k < n → get_or (tab 0 n f) k d ≡ f k
  get_or_table n f k d h = get_or_tab 0 n f k d h ∙ ap f (zero-add k)

  -- what two equal tables hold at a place
  pub table_at : (n : ℕ) (f g : ℕ → A) → tab 0 n f ≡ tab 0 n g → (k : ℕ) → k < n → f k ≡ g k
  table_at n f g e k h =
      sym (get_or_table n f k (f k) h) ∙ ap (λ (r : List A). get_or r k (f k)) e ∙ get_or_table n g k (f k) h

  -- a table is known by its places
  pub tab_from : (i n : ℕ) (f g : ℕ → A) → ((s : ℕ) → i ≤ s → s < i + n → f s ≡ g s) → tab i n f ≡ tab i n g
  tab_from i zero f g e = refl
  tab_from i (suc n) f g e =
      cc (e i (le_refl i) (omega arith), tab_from (suc i) n f g (λ s l h. e s (omega arith) (omega arith)))

  pub tab_ext : (i n : ℕ) (f g : ℕ → A) → ((s : ℕ) → s < i + n → f s ≡ g s) → tab i n f ≡ tab i n g
  tab_ext i n f g e = tab_from i n f g (λ s l h. e s h)

  -- a table of one value
  pub tab_constant : (i n : ℕ) (a : A) → tab i n (λ k. a) ≡ replicate n a
  tab_constant i zero a = refl
  tab_constant i (suc n) a = ap (λ (l : List A). a ∷ l) (tab_constant (suc i) n a)

  -- a table in two parts, and one place more at the end
  pub tab_append : (i n m : ℕ) (f : ℕ → A) → tab i (n + m) f ≡ tab i n f ++ tab (i + n) m f
  tab_append i zero m f = ap (λ (k : ℕ). tab i k f) (zero-add m) ∙ ap (λ (k : ℕ). tab k m f) (sym (add-zero i))
  tab_append i (suc n) m f =
      ap (λ (k : ℕ). tab i k f) (suc-add n m)
      ∙ ap (λ (r : List A). f i ∷ r) (tab_append (suc i) n m f
      ∙ ap (λ (k : ℕ). tab (suc i) n f ++ tab k m f) (suc-add i n ∙ sym (add-suc i n)))

  pub tab_snoc : (i n : ℕ) (f : ℕ → A) → tab i (suc n) f ≡ tab i n f ++ (f (i + n) ∷ [])
  tab_snoc i n f = ap (λ (k : ℕ). tab i k f) (sym (add-one n)) ∙ tab_append i n 1 f

  pub tab_shift : (i n : ℕ) (f : ℕ → A) → tab (suc i) n f ≡ tab i n (λ k. f (suc k))
  tab_shift i zero f = refl
  tab_shift i (suc n) f = ap (λ (r : List A). f (suc i) ∷ r) (tab_shift (suc i) n f)

  -- a table from k on is one from 0 on
  pub tab_moved : (k i n : ℕ) (f : ℕ → A) → tab (k + i) n f ≡ tab i n (λ m. f (k + m))
  tab_moved k i zero f = refl
  tab_moved k i (suc n) f =
      ap (λ (r : List A). f (k + i) ∷ r) (ap (λ (j : ℕ). tab j n f) (sym (add-suc k i)) ∙ tab_moved k (suc i) n f)

  -- a list is the table of what stands at its places
  pub tab_get_or : (xs : List A) (d : A) → tab 0 (length xs) (λ k. get_or xs k d) ≡ xs
  tab_get_or [] d = refl
  tab_get_or (x ∷ xs) d =
      ap (λ (r : List A). x ∷ r) (tab_shift 0 (length xs) (λ k. get_or (x ∷ xs) k d) ∙ tab_get_or xs d)

  pub tab_is : (xs : List A) (d : A) (f : ℕ → A) → ((k : ℕ) → k < length xs → f k ≡ get_or xs k d)
      → tab 0 (length xs) f ≡ xs
  tab_is xs d f e = tab_ext 0 (length xs) f (λ k. get_or xs k d) (λ k h. e k (omega arith)) ∙ tab_get_or xs d

  pub take_tab : (i k n : ℕ) (f : ℕ → A) → k ≤ n → take k (tab i n f) ≡ tab i k f
  take_tab i zero n f h = refl
  take_tab i (suc k) zero f h = absurd (not-suc-le-zero h)
  take_tab i (suc k) (suc n) f h = ap (λ (r : List A). f i ∷ r) (take_tab (suc i) k n f (le_of_suc-le-suc h))

  -- ---- a table that a loop goes through: what is left at s begins with f s

  pub tab_more : (n s : ℕ) (f : ℕ → A) → s < n → tab s (n - s) f ≡ f s ∷ tab (s + 1) (n - (s + 1)) f
  tab_more n s f h =
      let rest : n - s ≡ suc (n - (s + 1)) = omega arith in
      ap (λ (k : ℕ). tab s k f) rest ∙ ap (λ (i : ℕ). f s ∷ tab i (n - (s + 1)) f) (sym (add-one s))

  pub tab_none : (n s : ℕ) (f : ℕ → A) → n ≤ s → ◌≡◌ {A = List A} (tab s (n - s) f) []
  tab_none n s f h = let done : n - s ≡ 0 = omega arith in ap (λ (k : ℕ). tab s k f) done

  pub tab_all : (n : ℕ) (f : ℕ → A) → tab 0 (n - 0) f ≡ tab 0 n f
  tab_all n f = ap (λ (k : ℕ). tab 0 k f) (sub-zero n)

  -- from i to before n, cut at m
  pub tab_cut : (i m n : ℕ) (f : ℕ → A) → i ≤ m → m ≤ n → tab i (n - i) f ≡ tab i (m - i) f ++ tab m (n - m) f
  tab_cut i m n f a b =
      let all : n - i ≡ m - i + (n - m) = omega arith in
      ap (λ (k : ℕ). tab i k f) all ∙ tab_append i (m - i) (n - m) f
      ∙ ap (λ (k : ℕ). tab i (m - i) f ++ tab k (n - m) f) (omega arith)

  -- ---- parts and chunks

  pub length_part : (xs : List A) (at n : ℕ) → at + n ≤ length xs → length (take n (drop at xs)) ≡ n
  length_part xs at n h = length-take-le n (drop at xs) (omega (arith, length-drop at xs))

  -- a part from a to a + n
  pub part_is : (a n : ℕ) (xs : List A) → take (a + n - a) (drop a xs) ≡ take n (drop a xs)
  part_is a n xs = ap (λ (k : ℕ). take k (drop a xs)) (add-sub_cancel_left a n)

-- chunk i of m chunks ends where they end, or before
pub chunk_end : (i m n room : ℕ) → i < m → room ≡ m * n → i * n + n ≤ room
chunk_end i m n room h e = omega (arith, mul-le-mul_right n h, suc-mul i n)

pub length_chunk : {A : Type 0} (n i m : ℕ) (xs : List A) → i < m → length xs ≡ m * n → length (chunk n i xs) ≡ n
length_chunk n i m xs h e = length_part xs (i * n) n (chunk_end i m n (length xs) h e)

-- place n of chunk p of so many chunks lies inside
pub inside : (rows long p n room : ℕ) → p < rows → n < long → room ≡ rows * long → p * long + n < room
inside rows long p n room hp hn e = omega (arith, digits_lt hp hn)
