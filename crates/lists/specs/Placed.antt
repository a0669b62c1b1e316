-- A list in which a part stands from a place on, instead of what stood there. Definitions only.
use Rattle.std.specs.Prelude.{◌+◌, ◌++◌, ℕ, List, length, take, drop}

unfoldable pub placed : {A : Type 0} → List A → ℕ → List A → List A
placed xs at part = (take at xs ++ part) ++ drop (at + length part) xs
