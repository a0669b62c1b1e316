-- Document 01, 'Filter bank file' and item 10: numbers that stand one after another, "Big-endian", samples "as f32
-- bits". Definitions only.
use Rattle.std.specs.Prelude.{◌+◌, ◌*◌}
use Rattle.lists.specs.Prelude.{ℕ, List, flat_map, Float, binary32, binary64, to_bits, ℤ}
use Rattle.std.specs.Int.{w16}
use Rattle.std.proofs.Common.{of_z}
use Rattle.lists.specs.Tables.{tab}
use Rattle.big_endian.specs.Bytes.{bytes_of}
use Rattle.big_endian.specs.Fields.{signed_at, float_at, double_at}

-- n fields that f reads, w bytes apart, from the offset `at` on
unfoldable pub strided : {A : Type 0} → (ℕ → A) → ℕ → ℕ → ℕ → List A
strided f w at n = tab 0 n (λ k. f (at + k * w))

-- signed numbers, two bytes each; f32 samples, four; f64 samples, eight
abbrev pub signeds_at : List ℕ → ℕ → ℕ → List ℤ
signeds_at s at n = strided (signed_at s) 2 at n

abbrev pub floats_at : List ℕ → ℕ → ℕ → List Float
floats_at s at n = strided (float_at s) 4 at n

abbrev pub doubles_at : List ℕ → ℕ → ℕ → List Float
doubles_at s at n = strided (double_at s) 8 at n

-- the bits of each element in w bytes, one after another
unfoldable pub field_bytes : {A : Type 0} → ℕ → (A → ℕ) → List A → List ℕ
field_bytes w bits xs = flat_map (λ x. bytes_of w (bits x)) xs

-- the bytes of such lists, and of numbers of eight bytes each. The one NaN is written 7FC00000 or 7FF8000000000000.
abbrev pub signed_bytes : List ℤ → List ℕ
signed_bytes = field_bytes 2 (of_z w16)

abbrev pub float_bytes : List Float → List ℕ
float_bytes = field_bytes 4 (to_bits binary32)

abbrev pub double_bytes : List Float → List ℕ
double_bytes = field_bytes 8 (to_bits binary64)

abbrev pub number_bytes : List ℕ → List ℕ
number_bytes = field_bytes 8 (λ (n : ℕ). n)
