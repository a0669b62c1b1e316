-- Document 01, 'Filter bank file' and item 10: "Big-endian". A number as bytes, the first byte the one that weighs
-- most. Definitions only.
use Rattle.std.specs.Prelude.{◌+◌, ◌*◌, ◌/◌, ◌%◌, ◌^◌, ◌<◌, ◌∷◌}
use Rattle.lists.specs.Prelude.{ℕ, zero, suc, List, [], length}
use Rattle.lists.specs.ForAll.{ForAll}

-- the number that a list of bytes stands for
unfoldable pub value_of : List ℕ → ℕ
value_of [] = 0
value_of (b ∷ bs) = b * 256 ^ length bs + value_of bs

-- a number's last `count` digits to the base 256
unfoldable pub bytes_of : ℕ → ℕ → List ℕ
bytes_of zero n = []
bytes_of (suc count) n = n / 256 ^ count % 256 ∷ bytes_of count n

abbrev pub IsByte : ℕ → Type 0
IsByte b = b < 256

-- each element is a byte, as in every slice of them
abbrev pub AreBytes : List ℕ → Type 0
AreBytes s = ForAll IsByte 0 s
