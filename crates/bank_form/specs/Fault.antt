-- Document 02, E2 and E6: what is wrong with a bank, and where. Definitions only.
-- "Each of the new numbers also returns the offset of the first byte of the offending field; 19 gives the file's
-- length. Checks run in byte order; an azimuth is compared with earlier rows once it is read. The length is wrong, at
-- its own field, if it isn't the number of bytes after it, checked at once, or if bytes are left after the last row."
-- And "Refusals: 13 version, 14 length, 15 row count, 16 tap count, 17 azimuth out of range or repeated, 18 tap not
-- finite, 19 ends before or inside a field still to be read." E6: "20 elevation out of range, checked where its bytes
-- stand; [..] 17 now means the azimuth out of range or the pair repeated, the latter checked at the elevation field
-- after 20 and pointing at it (version 1: as before)." The walk is over a file of so many bytes, of which a list has
-- all, or the first: `StartSuffices` of specs/FaultLaws.antt says how many of them are enough.
use Rattle.std.specs.Prelude.{◌+◌, ◌-◌, ◌*◌, ◌∷◌, Result, Ok, Err}
use Rattle.lists.specs.Prelude.{ℕ, zero, suc, Bool, cond, List, [], flat_map, ltb, eqb, Float, ℤ, length}
use Rattle.std.specs.Float.Ieee.Scale.{finite}
use Rattle.big_endian.specs.Fields.{field_at, signed_at, float_at}
use Rattle.big_endian.specs.Lists.{strided, floats_at}
use Rattle.refusals.specs.Numbers.{number_of}
use Rattle.bank_form.specs.declared.Fault.{Fault as FaultFound}
use Rattle.lists.specs.Tables.{every}
use Rattle.refusals.specs.Ranges.{within}
use Rattle.refusals.specs.Refusals.{answered}
use Rattle.bank_form.specs.Bank.{Bank, Pair, is_azimuth, is_elevation, differ, is_level}
use Rattle.bank_form.specs.Version.{without, row_size, taps_at, pair_at, elevation_at}

-- ---- what stands in the bytes

abbrev pub version_in : List ℕ → ℕ
version_in s = field_at s 0 1

abbrev pub rows_in_of : List ℕ → ℕ
rows_in_of s = field_at s 5 2

abbrev pub length_in : List ℕ → ℕ
length_in s = field_at s 7 2

-- in version v the azimuths, the elevations and the taps of n rows from `at` on
abbrev pub azimuths_from : List ℕ → ℕ → ℕ → ℕ → ℕ → List ℤ
azimuths_from s v l at n = strided (signed_at s) (row_size v l) at n

abbrev pub elevations_from : List ℕ → ℕ → ℕ → ℕ → ℕ → List ℤ
elevations_from s v l at n = strided (elevation_at v s) (row_size v l) at n

abbrev pub row_taps : List ℕ → ℕ → ℕ → ℕ → List Float
row_taps s v l at = floats_at s (taps_at v at) (2 * l)

unfoldable pub taps_from : List ℕ → ℕ → ℕ → ℕ → ℕ → List Float
taps_from s v l at n = flat_map (row_taps s v l) (strided (λ p. p) (row_size v l) at n)

-- the bank of a file, in the version that it says
abbrev pub bank_in : List ℕ → Bank
bank_in s = record {
  azimuths = azimuths_from s (version_in s) (length_in s) 9 (rows_in_of s);
  elevations = elevations_from s (version_in s) (length_in s) 9 (rows_in_of s);
  length = length_in s;
  taps = taps_from s (version_in s) (length_in s) 9 (rows_in_of s);
}

-- the pair of the row at an offset, and those of n rows
abbrev pub pair_in : ℕ → List ℕ → ℕ → Pair
pair_in v s at = record { azimuth = signed_at s at; elevation = elevation_at v s at }

abbrev pub pairs_from : List ℕ → ℕ → ℕ → ℕ → ℕ → List Pair
pairs_from s v l at n = strided (pair_in v s) (row_size v l) at n

-- ---- faults

-- the number that tells which field breaks the form, and the offset of its first byte; both are 0 where none does
pub record Fault : Type 0 where
  pub refusal : ℕ
  pub offset : ℕ

-- the fault that code hands on by its refusal's name, and what a search for one answers
abbrev pub told_as_number : FaultFound → Fault
told_as_number f = record { refusal = number_of f.refusal; offset = f.offset }

abbrev pub found : {A : Type 0} → Result A FaultFound → Fault
found (Ok a) = record { refusal = 0; offset = 0 }
found (Err f) = told_as_number f

abbrev pub sound : Fault
sound = record { refusal = 0; offset = 0 }

abbrev pub wrong : ℕ → ℕ → Fault
wrong n at = record { refusal = n; offset = at }

-- the first fault of two walks, one after the other
unfoldable pub or_else : Fault → Fault → Fault
or_else a b = answered a.refusal b (λ n. a)

-- no fault where the test holds, else this number at this place
abbrev pub unless : Bool → ℕ → ℕ → Fault
unless good n at = cond good sound (wrong n at)

-- ---- the walk over a file of `size` bytes

-- a field of `count` bytes at an offset: it ends in the file, and it is good
unfoldable pub field : ℕ → ℕ → ℕ → ℕ → Bool → Fault
field size at count n good = cond (ltb size (at + count)) (wrong 19 size) (unless good n at)

-- n taps from `at` on
unfoldable pub taps_fault : ℕ → List ℕ → ℕ → ℕ → Fault
taps_fault size s at zero = sound
taps_fault size s at (suc n) = or_else (field size at 4 18 (finite (float_at s at))) (taps_fault size s (at + 4) n)

-- none of n rows from `at` on has the pair p
unfoldable pub is_new : List ℕ → ℕ → ℕ → Pair → ℕ → ℕ → Bool
is_new s v l p at n = every (λ (q : Pair). differ q p) (pairs_from s v l at n)

-- the elevation of the row at an offset; version 1 has none
unfoldable pub elevation_fault : ℕ → List ℕ → ℕ → ℕ → Fault
elevation_fault size s v at = without v sound (field size (at + 2) 2 20 (is_elevation (signed_at s (at + 2))))

-- a row at an offset, with i rows before it: its pair is compared once it is read
unfoldable pub row_fault : ℕ → List ℕ → ℕ → ℕ → ℕ → ℕ → Fault
row_fault size s v l i at =
    or_else (field size at 2 17 (is_azimuth (signed_at s at)))
    (or_else (elevation_fault size s v at)
    (or_else (unless (is_new s v l (pair_in v s at) 9 i) 17 (pair_at v at))
    (taps_fault size s (taps_at v at) (2 * l))))

-- n rows from `at` on, with i rows before them; after the last the file ends, or its length is wrong
unfoldable pub rows_fault : ℕ → List ℕ → ℕ → ℕ → ℕ → ℕ → ℕ → Fault
rows_fault size s v l i at zero = unless (eqb size at) 14 1
rows_fault size s v l i at (suc n) =
    or_else (row_fault size s v l i at) (rows_fault size s v l (i + 1) (at + row_size v l) n)

-- the four fields of the head, each of which has a least and a largest value
unfoldable pub head_field : ℕ → List ℕ → ℕ → ℕ → ℕ → ℕ → ℕ → Fault
head_field size s at count n low high = field size at count n (within low high (field_at s at count))

unfoldable pub head_fault : ℕ → List ℕ → Fault
head_fault size s =
    or_else (head_field size s 0 1 13 1 2)
    (or_else (head_field size s 1 4 14 (size - 5) (size - 5))
    (or_else (head_field size s 5 2 15 1 8)
    (head_field size s 7 2 16 1 512)))

unfoldable pub fault_in : ℕ → List ℕ → Fault
fault_in size s = or_else (head_fault size s) (rows_fault size s (version_in s) (length_in s) 0 9 (rows_in_of s))

-- of a whole file
abbrev pub fault : List ℕ → Fault
fault s = fault_in (length s) s

unfoldable pub is_file : List ℕ → Bool
is_file s = eqb (fault s).refusal 0

-- ---- a file that is to be turned into another version

-- "Each conversion gives 13 for the wrong version": v is the right one
unfoldable pub fault_of : ℕ → List ℕ → Fault
fault_of v s = or_else (head_field (length s) s 0 1 13 v v) (fault s)

-- the first elevation that is not 0, where it stands in a file of version 2: rows of l taps for each ear, from `at` on
unfoldable pub raised_from : ℕ → ℕ → List ℤ → Fault
raised_from l at [] = sound
raised_from l at (e ∷ es) = or_else (unless (is_level e) 21 (pair_at 2 at)) (raised_from l (at + row_size 2 l) es)

-- "21 has elevations"
abbrev pub raised_fault : Bank → Fault
raised_fault b = raised_from b.length 9 b.elevations
