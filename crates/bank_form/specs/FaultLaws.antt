-- Document 02, E2 and E6: what the first fault of a bank depends on, and that the writer's is the reader's. Definitions
-- only: proofs/Places.antt, FieldPlaces.antt, Order.antt, Start.antt, Writer.antt and Conversions.antt show them.
use Rattle.std.specs.Prelude.{◌≡◌, ◌&&◌, ◌||◌, ◌⊎◌, ◌+◌, ◌-◌, ◌*◌, ◌≤◌, ◌<◌}
use Rattle.lists.specs.Prelude.{Bool, true, false, cond, List, [], ℕ, T, eqb, leb, ℤ, pos, length, take, get_or}
use Rattle.std.specs.Float.Ieee.Scale.{finite}
use Rattle.big_endian.specs.Fields.{field_at, signed_at, float_at}
use Rattle.lists.specs.Tables.{every}
use Rattle.refusals.specs.Ranges.{within}
use Rattle.bank_form.specs.Fault.{Fault}
use Rattle.bank_form.specs.Bank.{Bank, is_azimuth, is_elevation, is_level, level}
use Rattle.bank_form.specs.Version.{is_version, row_size, taps_at, pair_at, largest_file}
use Rattle.bank_form.specs.Encoding.{encode}
use Rattle.bank_form.specs.Fault.{version_in, rows_in_of, length_in, pair_in, sound, wrong, is_new, fault_in, fault}
use Rattle.bank_form.specs.Fault.{fault_of, raised_from, raised_fault}
use Rattle.bank_form.specs.FitsFields.{FitsFields}
use Rattle.bank_form.specs.WriteFault.{write_fault}

-- ---- numbers and places

-- the bytes of the field that a number tells: the version has one, the length and a tap four, the counts, an azimuth
-- and an elevation two; 19 is told behind the last byte
abbrev pub field_size : ℕ → ℕ
field_size n = cond (eqb n 13) 1 (cond (eqb n 14 || eqb n 18) 4 (cond (eqb n 19) 0 2))

-- a number from 13 to 20, and its field in a file of `size` bytes; 19 at its end
pub record NumberAndPlace (size : ℕ) (f : Fault) : Type 0 where
  pub least : 13 ≤ f.refusal
  pub most : f.refusal ≤ 20
  pub inside : f.offset + field_size f.refusal ≤ size
  pub end : f.refusal ≡ 19 → f.offset ≡ size

-- "19 gives the file's length", and a bank is refused by these numbers alone
abbrev pub NumbersAndPlaces : Type 0
NumbersAndPlaces = (s : List ℕ) → (fault s ≡ sound) ⊎ NumberAndPlace (length s) (fault s)

-- where row i of a file stands
abbrev pub row_place : List ℕ → ℕ → ℕ
row_place s i = 9 + i * row_size (version_in s) (length_in s)

-- 17 of row i: "the azimuth out of range or the pair repeated, the latter checked at the elevation field [..] and
-- pointing at it (version 1: as before)"
pub record AzimuthOut (s : List ℕ) (i at : ℕ) : Type 0 where
  pub place : at ≡ row_place s i
  pub bad : is_azimuth (signed_at s (row_place s i)) ≡ false

pub record Repeated (s : List ℕ) (i at : ℕ) : Type 0 where
  pub place : at ≡ pair_at (version_in s) (row_place s i)
  pub bad : is_new s (version_in s) (length_in s) (pair_in (version_in s) s (row_place s i)) 9 i ≡ false

-- 20 of row i
pub record ElevationOut (s : List ℕ) (i at : ℕ) : Type 0 where
  pub version : version_in s ≡ 1 → ⊥
  pub place : at ≡ row_place s i + 2
  pub bad : is_elevation (signed_at s at) ≡ false

-- "the offset of the first byte of the offending field": where the fields of a number stand in a file. A row of the
-- file has its azimuth first, then its elevation, and then the taps of both ears.
pub record FieldPlace (s : List ℕ) (f : Fault) : Type 0 where
  pub version : f.refusal ≡ 13 → f.offset ≡ 0
  pub length : f.refusal ≡ 14 → f.offset ≡ 1
  pub row_count : f.refusal ≡ 15 → f.offset ≡ 5
  pub tap_count : f.refusal ≡ 16 → f.offset ≡ 7
  pub azimuth : f.refusal ≡ 17 → (i : ℕ) × (i < rows_in_of s) × (AzimuthOut s i f.offset ⊎ Repeated s i f.offset)
  pub tap : f.refusal ≡ 18 → (i k : ℕ) × (i < rows_in_of s) × (k < 2 * length_in s)
      × (f.offset ≡ taps_at (version_in s) (row_place s i) + 4 * k) × (finite (float_at s f.offset) ≡ false)
  pub elevation : f.refusal ≡ 20 → (i : ℕ) × (i < rows_in_of s) × ElevationOut s i f.offset

abbrev pub FieldPlaces : Type 0
FieldPlaces = (s : List ℕ) → FieldPlace s (fault s)

-- ---- byte order

-- "Checks run in byte order": a file as long that agrees up to the end of the field at fault has the same fault. (Of
-- 19, which is told at the end, that says nothing.) Bytes that are left after the last row have no field of their own:
-- 14 is told of a length that is right only where there are some, and every file as long that agrees up to the end of
-- that row has the same fault.
pub record ByteOrder : Type 0 where
  pub field_at_fault : (s t : List ℕ) → length t ≡ length s → (fault s ≡ sound → ⊥)
      → ((fault s).refusal ≡ 14 → field_at s 1 4 ≡ length s - 5 → ⊥)
      → take ((fault s).offset + field_size (fault s).refusal) t
      ≡ take ((fault s).offset + field_size (fault s).refusal)
      s → fault t ≡ fault s
  pub bytes_left : (s : List ℕ) → (fault s).refusal ≡ 14 → field_at s 1 4 ≡ length s - 5
      → row_place s (rows_in_of s) < length s
  pub last_row : (s t : List ℕ) → length t ≡ length s → take (row_place s (rows_in_of s)) t
      ≡ take (row_place s (rows_in_of s)) s
      → fault t ≡ fault s

-- ---- the start of a file

-- a file of `size` bytes begins with these
pub record Begins (start : List ℕ) (size : ℕ) (file : List ℕ) : Type 0 where
  pub long : length file ≡ size
  pub same : take (length start) file ≡ start

-- how many bytes of a file that begins with these can make a difference: where its version is wrong, that alone; else
-- one more than its length field asks for
abbrev pub bytes_that_matter : List ℕ → ℕ
bytes_that_matter start = cond (is_version (version_in start)) (6 + field_at start 1 4) 1

-- a file of `size` bytes or more begins with these, and so many are all that can make a difference
pub record Exceeds (start : List ℕ) (size : ℕ) (file : List ℕ) : Type 0 where
  pub more : size ≤ length file
  pub same : take (length start) file ≡ start
  pub past : bytes_that_matter start ≤ size

-- a start and a size are taken from a file
abbrev pub TakenFrom : List ℕ → ℕ → List ℕ → Type 0
TakenFrom start size file = Begins start size file ⊎ Exceeds start size file

-- so many bytes are all of a file of `size` bytes, or at least as many of its first as the largest bank has
abbrev pub suffices : ℕ → ℕ → Bool
suffices have size = eqb have size || (leb largest_file have && leb have size)

-- then they tell the fault of the file that they were taken from
abbrev pub StartSuffices : Type 0
StartSuffices = (start : List ℕ) (size : ℕ) (file : List ℕ) → T (suffices (length start) size)
    → TakenFrom start size file → fault_in size start ≡ fault file

-- ---- the writer

-- the numbers of the writer: it makes version and length itself, and ends where it should
abbrev pub writer_gives : ℕ → Bool
writer_gives n = within 15 18 n || eqb n 20

-- a bank is refused by these alone
abbrev pub WriterNumbers : Type 0
WriterNumbers = (v : ℕ) (b : Bank) → (write_fault v b ≡ sound) ⊎ (writer_gives (write_fault v b).refusal ≡ true)

-- the writer's fault is the reader's of the bytes that would be written, for every bank of i16 and f32 that has an
-- elevation for each row and 2 x rows x L taps, and whose counts fit their fields
abbrev pub WriterAsReader : Type 0
WriterAsReader = (v : ℕ) (b : Bank) → FitsFields v b → write_fault v b ≡ fault (encode v b)

-- ---- conversions

-- "Each conversion gives 13 for the wrong version", and of a file in the right one it tells what reading tells
pub record ConversionFault : Type 0 where
  pub right : (v : ℕ) (s : List ℕ) → is_version v ≡ true → version_in s ≡ v → fault_of v s ≡ fault s
  pub other : (v : ℕ) (s : List ℕ) → 1 ≤ length s → (version_in s ≡ v → ⊥) → fault_of v s ≡ wrong 13 0
  pub empty : (v : ℕ) → fault_of v [] ≡ wrong 19 0

-- 21 is told of every bank that has elevations and of no other
abbrev pub RaisedExactly : Type 0
RaisedExactly = (b : Bank) → eqb (raised_fault b).refusal 0 ≡ level b

-- and at the first elevation that is not 0, where a file of version 2 has it
pub record FirstRaised (l at : ℕ) (es : List ℤ) (i : ℕ) : Type 0 where
  pub among : i < length es
  pub told : raised_from l at es ≡ wrong 21 (pair_at 2 (at + i * row_size 2 l))
  pub before : every is_level (take i es) ≡ true
  pub itself : is_level (get_or es i (pos 0)) ≡ false

abbrev pub RaisedPlace : Type 0
RaisedPlace = (b : Bank) → (raised_fault b ≡ sound) ⊎ ((i : ℕ) × FirstRaised b.length 9 b.elevations i)
