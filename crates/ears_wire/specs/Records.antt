-- Records of n bytes each, in bytes that come in parts of any sizes: the whole ones, and the bytes behind them.
-- Definitions only.
use Rattle.std.specs.Prelude.{◌*◌, ◌/◌}
use Rattle.lists.specs.Prelude.{ℕ, List, length, drop}
use Rattle.lists.specs.Tables.{tab, chunk}

-- how many whole records there are
abbrev pub whole_in_of : ℕ → List ℕ → ℕ
whole_in_of n bytes = length bytes / n

-- what each whole record says, in the order in which they came
abbrev pub each_in : {A : Type 0} → ℕ → (List ℕ → A) → List ℕ → List A
each_in n says bytes = tab 0 (whole_in_of n bytes) (λ i. says (chunk n i bytes))

-- the bytes behind them, fewer than a record has
abbrev pub rest_in : ℕ → List ℕ → List ℕ
rest_in n bytes = drop (whole_in_of n bytes * n) bytes
