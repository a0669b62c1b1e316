-- Wrong ways to read and write a field, each held against the promise on a few bytes. Assumes nothing.
use Rattle.std.specs.Prelude.{◌≡◌, ◌∷◌}
use Rattle.lists.specs.Prelude.{ℕ, arith, ap, Bool, true, false, true≢false, List, [], negsuc, Float, nan, inf, fin}
use Rattle.lists.specs.Prelude.{of_bits, to_bits, get_or}
use lib.Ieee.Positive.{num}
use lib.Signed.{mag}
use Rattle.formats.specs.Floats.{one_float}
use Rattle.lists.specs.Placed.{placed}
use Rattle.big_endian.specs.Bytes.{value_of, bytes_of}
use Rattle.big_endian.specs.Fields.{Field, field_at, with_field, signed_at, with_signed, float_at, with_float}
use Rattle.big_endian.specs.Fields.{double_at, with_double}

-- ---- reading

-- the last byte weighs most: 01 00 would be 1
little_endian : Field (1 ∷ 0 ∷ []) 0 2 1 → ⊥
unfolding field_at value_of
little_endian p = let e : ◌≡◌ {A = ℕ} 1 256 = p.bits in omega arith

-- a field of nine bytes is read
nine_bytes : Field (0 ∷ 0 ∷ 0 ∷ 0 ∷ 0 ∷ 0 ∷ 0 ∷ 0 ∷ 7 ∷ []) 0 9 7 → ⊥
unfolding field_at
nine_bytes p = let e : ◌≡◌ {A = ℕ} 7 0 = p.bits in omega arith

-- the first bit is a sign before a magnitude: FFFF would be -32767, and is -1
sign_and_magnitude : negsuc 32766 ≡ signed_at (255 ∷ 255 ∷ []) 0 → ⊥
unfolding signed_at field_at value_of
sign_and_magnitude p = let e : ◌≡◌ {A = ℕ} 32766 0 = ap mag p in omega arith

is_nan : Float → Bool
is_nan nan = true
is_nan (inf s) = false
is_nan (fin s m e) = false

-- the pattern of an infinity is taken for a NaN
infinity_read_as_nan : nan ≡ float_at (127 ∷ 128 ∷ 0 ∷ 0 ∷ []) 0 → ⊥
unfolding float_at field_at value_of of_bits is_nan
infinity_read_as_nan p = true≢false (ap is_nan p)

-- an f64 is taken for an f32 and what follows it: 3FF00000 would be 1.875, and 3FF0000000000000 is 1.0
double_read_as_float : fin false 15 (negsuc 2) ≡ double_at (63 ∷ 240 ∷ 0 ∷ 0 ∷ 0 ∷ 0 ∷ 0 ∷ 0 ∷ []) 0 → ⊥
unfolding double_at field_at value_of of_bits
double_read_as_float p = let e : ◌≡◌ {A = ℕ} 15 1 = ap num p in omega arith

-- ---- writing

-- the byte at a place
abbrev byte : ℕ → List ℕ → ℕ
byte i s = get_or s i 0

-- the last byte is written first: 258 would be 02 01
written_backwards : 2 ∷ 1 ∷ [] ≡ with_field (0 ∷ 0 ∷ []) 0 2 258 → ⊥
unfolding with_field bytes_of placed
written_backwards p = let e : ◌≡◌ {A = ℕ} 2 1 = ap (byte 0) p in omega arith

-- a byte behind the field is changed
byte_behind_changed : 1 ∷ 2 ∷ 0 ∷ [] ≡ with_field (9 ∷ 9 ∷ 9 ∷ []) 0 2 258 → ⊥
unfolding with_field bytes_of placed
byte_behind_changed p = let e : ◌≡◌ {A = ℕ} 0 9 = ap (byte 2) p in omega arith

-- a sign is written before a magnitude: -1 would be 80 01
sign_and_magnitude_written : 128 ∷ 1 ∷ [] ≡ with_signed (0 ∷ 0 ∷ []) 0 (negsuc 0) → ⊥
unfolding with_signed with_field bytes_of placed
sign_and_magnitude_written p = let e : ◌≡◌ {A = ℕ} 128 255 = ap (byte 0) p in omega arith

-- an f32 is written at the start, wherever it is asked for
float_at_the_start : 63 ∷ 128 ∷ 0 ∷ 0 ∷ 9 ∷ [] ≡ with_float (9 ∷ 9 ∷ 9 ∷ 9 ∷ 9 ∷ []) 1 one_float → ⊥
unfolding with_float with_field bytes_of placed to_bits
float_at_the_start p = let e : ◌≡◌ {A = ℕ} 63 9 = ap (byte 0) p in omega arith

-- a NaN is written as an infinity
double_nan_as_infinity : 127 ∷ 240 ∷ 0 ∷ 0 ∷ 0 ∷ 0 ∷ 0 ∷ 0 ∷ [] ≡ with_double (9 ∷ 9 ∷ 9 ∷ 9 ∷ 9 ∷ 9 ∷ 9 ∷ 9 ∷ []) 0 nan
    → ⊥
unfolding with_double with_field bytes_of placed to_bits
double_nan_as_infinity p = let e : ◌≡◌ {A = ℕ} 240 248 = ap (byte 1) p in omega arith
