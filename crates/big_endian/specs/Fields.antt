-- Document 01, 'Filter bank file' and item 10: the fields of a file, `count` bytes from the offset `at` on,
-- "Big-endian", some "signed", some "f32 bits". Definitions only. A field has at most eight bytes. One that is longer,
-- or does not lie inside the list, reads as 0, and writing it changes nothing.
use Rattle.std.specs.Prelude.{◌+◌, ◌^◌, ◌<◌, ◌≡◌, ◌&&◌}
use Rattle.lists.specs.Prelude.{ℕ, Bool, cond, List, leb, ℤ, Float, binary32, binary64, of_bits, to_bits, length, take}
use Rattle.lists.specs.Prelude.{drop}
use Rattle.std.specs.Int.{w16}
use Rattle.std.proofs.Common.{to_z, of_z}
use Rattle.big_endian.specs.Bytes.{value_of, bytes_of}
use Rattle.lists.specs.Placed.{placed}

-- whether the field lies inside a list of so many bytes
abbrev pub lies : ℕ → ℕ → ℕ → Bool
lies size at count = leb count 8 && leb (at + count) size

unfoldable pub field_at : List ℕ → ℕ → ℕ → ℕ
field_at s at count = cond (lies (length s) at count) (value_of (take count (drop at s))) 0

unfoldable pub with_field : List ℕ → ℕ → ℕ → ℕ → List ℕ
with_field s at count n = cond (lies (length s) at count) (placed s at (bytes_of count n)) s

-- a two-byte field as a signed number, in two's complement
unfoldable pub signed_at : List ℕ → ℕ → ℤ
signed_at s at = to_z w16 (field_at s at 2)

unfoldable pub with_signed : List ℕ → ℕ → ℤ → List ℕ
with_signed s at z = with_field s at 2 (of_z w16 z)

-- a four-byte field as the f32 whose bits it holds; every NaN is the one NaN, which is written 7FC00000
unfoldable pub float_at : List ℕ → ℕ → Float
float_at s at = of_bits binary32 (field_at s at 4)

unfoldable pub with_float : List ℕ → ℕ → Float → List ℕ
with_float s at x = with_field s at 4 (to_bits binary32 x)

-- an eight-byte field as the f64 whose bits it holds; the one NaN is written 7FF8000000000000
unfoldable pub double_at : List ℕ → ℕ → Float
double_at s at = of_bits binary64 (field_at s at 8)

unfoldable pub with_double : List ℕ → ℕ → Float → List ℕ
with_double s at x = with_field s at 8 (to_bits binary64 x)

-- what reading a field answers
pub record Field (s : List ℕ) (at count : ℕ) (r : ℕ) : Type 0 where
  pub bits : r ≡ field_at s at count
  pub bound : r < 256 ^ count
