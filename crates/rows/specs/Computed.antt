-- What a program does with rows of n numbers: each is put n places behind the one before. Nobody has to believe it: a
-- list that just has room for them then holds them joined (proofs/Joined.antt). Definitions only.
use Rattle.std.specs.Prelude.{◌+◌, ◌∷◌}
use Rattle.lists.specs.Prelude.{ℕ, List, [], sets}

abbrev pub put_rows : {A : Type 0} → ℕ → List A → ℕ → List (List A) → List A
put_rows n weights at [] = weights
put_rows n weights at (row ∷ rows) = put_rows n (sets weights at row) (at + n) rows
