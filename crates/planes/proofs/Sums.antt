-- Laws of the ordered sum: the loop that forms it, the products of two lists place by place, lists that are joined, and
-- a NaN in one. Assumes nothing.
use Rattle.std.specs.Prelude.{◌≡◌, ◌∷◌, ◌++◌, ◌+◌, ◌≤◌, ◌<◌}
use Rattle.lists.specs.Prelude.{refl, sym, ap, ◌∙◌, List, [], ℕ, zero, suc, min, not-suc-le-zero, le_of_suc-le-suc}
use Rattle.lists.specs.Prelude.{arith, length, get_or, take, drop, Float, nan, inf, fin, binary64, add, mul}
use Rattle.formats.specs.Floats.{zero_float}
use Rattle.numbers.specs.Computed.{rounded, narrowed}
use Rattle.lists.specs.Tables.{tab}
use Rattle.lists.proofs.Tables.{tab_shift}
use Rattle.lists.proofs.LoopOverTable.{LoopOverTable, loop-none, loop-more, loop-all}
use Rattle.planes.specs.Sums.{total, products, dot, mixed}

-- ---- the loop: f 0, f 1, .., f (n - 1) are added, those before i so far

abbrev pub Summing : (ℕ → Float) → ℕ → Float → ℕ → Type 0
Summing f n sum i = LoopOverTable (λ k. total) f n zero_float sum i

module _ (f : ℕ → Float) (n : ℕ) where
  pub summing_none : Summing f n zero_float 0
  summing_none = loop-none (λ k. total) f n zero_float

  pub summing_more : (sum : Float) (i : ℕ) (x : Float) → Summing f n sum i → i < n → x ≡ f i
      → Summing f n (add binary64 sum x) (i + 1)
  summing_more sum i x g h e = loop-more (λ k. total) f n zero_float (λ k. add binary64) (λ k s a l. refl) sum i x
      (add binary64 sum x) g h e refl

  pub summing_all : (sum : Float) (i : ℕ) → Summing f n sum i → n ≤ i → sum ≡ total zero_float (tab 0 n f)
  summing_all sum i = loop-all (λ k. total) f n zero_float sum i

-- ---- products

-- place by place
abbrev pub product_at : List Float → List Float → ℕ → Float
product_at xs ys k = mul binary64 (get_or xs k nan) (get_or ys k nan)

products_tab : (xs ys : List Float) (n : ℕ) → n ≡ min (length xs) (length ys)
    → products xs ys ≡ tab 0 n (product_at xs ys)
products_tab [] ys zero e = refl
products_tab [] ys (suc n) e = absurd (omega arith)
products_tab (x ∷ xs) [] zero e = refl
products_tab (x ∷ xs) [] (suc n) e = absurd (omega arith)
products_tab (x ∷ xs) (y ∷ ys) zero e = absurd (omega arith)
products_tab (x ∷ xs) (y ∷ ys) (suc n) e =
    ap (λ (l : List Float). mul binary64 x y ∷ l)
    (products_tab xs ys n (omega arith) ∙ sym (tab_shift 0 n (product_at (x ∷ xs) (y ∷ ys))))

-- so the loop over the places of the shorter list forms their sum, from any sum on
pub dot_on : (a : Float) (xs ys : List Float) (n : ℕ) (sum : Float) (i : ℕ)
    → LoopOverTable (λ k. total) (product_at xs ys) n a sum i
    → n ≤ i → n ≡ min (length xs) (length ys) → sum ≡ dot a xs ys
dot_on a xs ys n sum i g h e =
    loop-all (λ k. total) (product_at xs ys) n a sum i g h ∙ ap (total a) (sym (products_tab xs ys n e))

pub dot_all : (xs ys : List Float) (n : ℕ) (sum : Float) (i : ℕ) → Summing (product_at xs ys) n sum i → n ≤ i
    → n ≡ min (length xs) (length ys) → sum ≡ dot zero_float xs ys
dot_all = dot_on zero_float

-- ---- lists that are joined: the sum goes on where the first ends
total_joined : (a : Float) (xs ys : List Float) → total a (xs ++ ys) ≡ total (total a xs) ys
total_joined a [] ys = refl
total_joined a (x ∷ xs) ys = total_joined (add binary64 a x) xs ys

products_none : (ys : List Float) → products ys [] ≡ []
products_none [] = refl
products_none (y ∷ ys) = refl

products_joined : (xs ys zs : List Float)
    → products (xs ++ ys) zs ≡ products xs (take (length xs) zs) ++ products ys (drop (length xs) zs)
products_joined [] ys zs = refl
products_joined (x ∷ xs) ys [] = sym (products_none ys)
products_joined (x ∷ xs) ys (z ∷ zs) = ap (λ (l : List Float). mul binary64 x z ∷ l) (products_joined xs ys zs)

pub dot_joined : (a : Float) (xs ys zs : List Float)
    → dot a (xs ++ ys) zs ≡ dot (dot a xs (take (length xs) zs)) ys (drop (length xs) zs)
dot_joined a xs ys zs =
    ap (total a) (products_joined xs ys zs)
    ∙ total_joined a (products xs (take (length xs) zs)) (products ys (drop (length xs) zs))

-- what stands beyond the second list's end does not count
pub products_take : (n : ℕ) (xs ys : List Float) → length ys ≤ n → products (take n xs) ys ≡ products xs ys
products_take zero [] ys h = refl
products_take zero (x ∷ xs) [] h = refl
products_take zero (x ∷ xs) (y ∷ ys) h = absurd (not-suc-le-zero h)
products_take (suc n) [] ys h = refl
products_take (suc n) (x ∷ xs) [] h = refl
products_take (suc n) (x ∷ xs) (y ∷ ys) h =
    ap (λ (l : List Float). mul binary64 x y ∷ l) (products_take n xs ys (le_of_suc-le-suc h))

-- ---- a NaN in the first list makes the sum one, whatever comes before and after

nan_added : (a : Float) → add binary64 a nan ≡ nan
unfolding add
nan_added nan = refl
nan_added (inf s) = refl
nan_added (fin s m e) = refl

total_nan : (xs : List Float) → total nan xs ≡ nan
unfolding add
total_nan [] = refl
total_nan (x ∷ xs) = total_nan xs

pub dot_nan : (a : Float) (xs ws : List Float) (c : ℕ) → c < length xs → c < length ws → get_or xs c nan ≡ nan
    → dot a xs ws ≡ nan
unfolding mul
dot_nan a [] ws c hx hw e = absurd (not-suc-le-zero hx)
dot_nan a (x ∷ xs) [] c hx hw e = absurd (not-suc-le-zero hw)
dot_nan a (x ∷ xs) (w ∷ ws) zero hx hw e =
    ap (λ (y : Float). total (add binary64 a (mul binary64 y w)) (products xs ws)) e
    ∙ ap (λ (y : Float). total y (products xs ws)) (nan_added a)
    ∙ total_nan (products xs ws)
dot_nan a (x ∷ xs) (w ∷ ws) (suc c) hx hw e =
    dot_nan (add binary64 a (mul binary64 x w)) xs ws c (le_of_suc-le-suc hx) (le_of_suc-le-suc hw) e

pub mixed_nan : (ws xs : List Float) (c : ℕ) → c < length xs → c < length ws → get_or xs c nan ≡ nan → mixed ws xs ≡ nan
unfolding mixed rounded
mixed_nan ws xs c hx hw e = ap narrowed (dot_nan zero_float xs ws c hx hw e)
