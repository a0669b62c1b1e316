-- `ForAll P d xs`: P holds of every element of xs, and of d, which a read beyond the end gives. Definitions only.
use Rattle.std.specs.Prelude.{ℕ, List, get_or}

module _ {A : Type 0} where
  -- every element is of a kind, and beyond them the default is too, as in every slice
  abbrev pub ForAll : (A → Type 0) → A → List A → Type 0
  ForAll P d xs = (i : ℕ) → P (get_or xs i d)
