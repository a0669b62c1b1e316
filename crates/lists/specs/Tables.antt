-- Lists given by a rule for each index (`tab`), the i-th chunk of a list, and tests over a list (`every`, `any`,
-- `count`): the words "rising" and "one of" of document 01. Definitions only.
use Rattle.std.specs.Prelude.{◌+◌, ◌*◌, ◌&&◌, ◌||◌, ◌∷◌, ℕ, zero, suc, Bool, true, false, cond, List, [], take, drop}

module _ {A : Type 0} where
  -- f i, f (i + 1), .., n of them
  abbrev pub tab : ℕ → ℕ → (ℕ → A) → List A
  tab i zero f = []
  tab i (suc n) f = f i ∷ tab (suc i) n f

  -- chunk i of a list that holds chunks of n elements one after another
  abbrev pub chunk : ℕ → ℕ → List A → List A
  chunk n i xs = take n (drop (i * n) xs)

  -- each of them is so
  abbrev pub every : (A → Bool) → List A → Bool
  every p [] = true
  every p (x ∷ xs) = p x && every p xs

-- one of them holds
abbrev pub any : List Bool → Bool
any [] = false
any (b ∷ bs) = b || any bs

-- how many of them hold
abbrev pub count : List Bool → ℕ
count [] = 0
count (b ∷ bs) = cond b 1 0 + count bs
