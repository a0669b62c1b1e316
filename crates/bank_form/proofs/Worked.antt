-- Worked files and banks (document 02, E2 and E6): what is told of each, and at which byte. The short ones are
-- computed; of a file of 40,000 bytes the start is. Assumes nothing.
use Rattle.std.specs.Prelude.{◌≡◌, ◌∷◌, ◌++◌, ◌*◌, ◌≤◌, ◌<◌}
use Rattle.lists.specs.Prelude.{refl, sym, ap, ◌∙◌, false, List, [], map, ℕ, arith, fin, fits, of_fields, of_bits, ℤ}
use Rattle.lists.specs.Prelude.{pos, length, take, set, replicate, take-length}
use Rattle.big_endian.specs.Bytes.{value_of}
use Rattle.big_endian.specs.Fields.{field_at, signed_at, float_at}
use Rattle.big_endian.specs.Lists.{strided}
use Rattle.bank_form.specs.Fault.{Fault}
use Rattle.bank_form.specs.Bank.{Bank, pairs_of, rows, is_azimuth, is_elevation, unlike, differ, is_tap, is_level}
use Rattle.bank_form.specs.Version.{elevation_at}
use Rattle.bank_form.specs.Fault.{rows_in_of, bank_in, elevation_fault, fault_of, raised_from}
use Rattle.bank_form.specs.Fault.{raised_fault, sound, wrong}
use Rattle.bank_form.specs.Fault.{or_else, field, taps_fault, is_new, row_fault, rows_fault, head_field, head_fault}
use Rattle.bank_form.specs.Fault.{fault_in, fault}
use Rattle.bank_form.specs.FaultLaws.{row_place, Begins}
use Rattle.bank_form.specs.WriteFault.{taps_wrong, rows_wrong, write_fault}
use Rattle.bank_form.proofs.Walk.{else_stop, fault_is}
use Rattle.big_endian.proofs.Starts.{SameStart, start_agrees}
use Rattle.bank_form.proofs.Agree.{head_agrees, fault_agrees}

-- what opens this opens every definition that a walk computes with
walk : ℕ → List ℕ → Fault
unfolding fault_in head_fault head_field rows_fault row_fault elevation_fault elevation_at is_new taps_fault field
    or_else is_azimuth is_elevation unlike differ field_at signed_at float_at value_of strided of_bits of_fields
    fault_of raised_from is_level
walk size s = fault_in size s

-- ---- the example of document 01: "One row at 0, L = 1, left 1.0, right 0.5"

abbrev head : List ℕ
head = 0x01 ∷ 0x00 ∷ 0x00 ∷ 0x00 ∷ 0x0E ∷ 0x00 ∷ 0x01 ∷ 0x00 ∷ 0x01 ∷ []

abbrev row : List ℕ
row = 0x00 ∷ 0x00 ∷ 0x3F ∷ 0x80 ∷ 0x00 ∷ 0x00 ∷ 0x3F ∷ 0x00 ∷ 0x00 ∷ 0x00 ∷ []

abbrev example : List ℕ
example = head ++ row

pub cut_file : fault (take 18 example) ≡ wrong 14 1
unfolding walk
cut_file = refl

-- a row like the example's at 450
abbrev other : List ℕ
other = set (set row 0 0x01) 1 0xC2

-- of each of these, f tells what stands beside it
abbrev Tells : {A B : Type 0} → (A → B) → List (A × B) → Type 0
Tells f cases = map (λ c. f c.0) cases ≡ map (λ c. c.1) cases

-- files of version 1 in reading, but for some heads
files_read : Tells fault (
    -- they end before a field, or in it; the last promises a second row
    (0x01 ∷ [], wrong 19 1)
    ∷ (0x01 ∷ 0x00 ∷ 0x00 ∷ [], wrong 19 3)
    ∷ (0x01 ∷ 0x00 ∷ 0x00 ∷ 0x00 ∷ 0x00 ∷ [], wrong 19 5)
    ∷ (set (take 18 example) 4 0x0D, wrong 19 18)
    ∷ (set example 6 2, wrong 19 19)
    -- versions 2, 3 and 0
    ∷ (0x02 ∷ [], wrong 19 1)
    ∷ (0x03 ∷ [], wrong 13 0)
    ∷ (0x00 ∷ [], wrong 13 0)
    -- a byte more, and with its length; no rows, and no taps either; no taps; 513 taps
    ∷ (example ++ (0x00 ∷ []), wrong 14 1)
    ∷ (set example 4 0x0F ++ (0x00 ∷ []), wrong 14 1)
    ∷ (set (set head 4 0x04) 6 0, wrong 15 5)
    ∷ (set (set (set head 4 0x04) 6 0) 8 0, wrong 15 5)
    ∷ (set (set head 4 0x06) 8 0 ++ (0x00 ∷ 0x00 ∷ []), wrong 16 7)
    ∷ (set example 7 0x02, wrong 16 7)
    -- azimuths of -1800 and 1801, the third row as the first, an infinite right tap, and one before a missing row
    ∷ (set (set example 9 0xF8) 10 0xF8, wrong 17 9)
    ∷ (set (set example 9 0x07) 10 0x09, wrong 17 9)
    ∷ (set (set head 4 0x22) 6 3 ++ row ++ other ++ row, wrong 17 29)
    ∷ (set (set head 4 0x18) 6 2 ++ row ++ set (set other 6 0x7F) 7 0x80, wrong 18 25)
    ∷ (set (set (set example 6 2) 15 0x7F) 16 0x80, wrong 18 15) ∷ []
    )
unfolding walk
files_read = refl

-- ---- version 2

abbrev pub head2 : List ℕ
head2 = 0x02 ∷ 0x00 ∷ 0x00 ∷ 0x00 ∷ 0x10 ∷ 0x00 ∷ 0x01 ∷ 0x00 ∷ 0x01 ∷ []

abbrev pub row2 : List ℕ
row2 = 0x00 ∷ 0x00 ∷ 0x00 ∷ 0x00 ∷ 0x3F ∷ 0x80 ∷ 0x00 ∷ 0x00 ∷ 0x3F ∷ 0x00 ∷ 0x00 ∷ 0x00 ∷ []

abbrev pub example2 : List ℕ
example2 = head2 ++ row2

-- a row like the example's with these four bytes for its azimuth and its elevation
abbrev pub row_at : ℕ → ℕ → ℕ → ℕ → List ℕ
row_at a b c d = set (set (set (set row2 0 a) 1 b) 2 c) 3 d

-- files of one row, and of two
abbrev pub one_at : ℕ → ℕ → ℕ → ℕ → List ℕ
one_at a b c d = head2 ++ row_at a b c d

abbrev two_rows : List ℕ → List ℕ → List ℕ
two_rows first second = set (set head2 4 0x1C) 6 2 ++ first ++ second

-- what is told in turning a file into version 1
abbrev fault_back : List ℕ → Fault
fault_back s = or_else (fault_of 2 s) (raised_fault (bank_in s))

pub version_2_with_1_in_front_forward : fault_of 1 (set example2 0 1) ≡ wrong 14 1
unfolding walk
version_2_with_1_in_front_forward = refl

pub elevation_901_back : fault_back (one_at 0x00 0x00 0x03 0x85) ≡ wrong 20 11
unfolding walk
elevation_901_back = refl

pub raised_back : fault_back (one_at 0x00 0x00 0x00 0x64) ≡ wrong 21 11
unfolding walk
raised_back = refl

-- files of both versions: what is told in reading, in turning them into version 2, and back
files_turned : Tells {B = Fault × Fault × Fault} (λ (s : List ℕ). (fault s, fault_of 1 s, fault_back s)) (
    ([], (wrong 19 0, wrong 19 0, wrong 19 0))
    ∷ (example, (sound, sound, wrong 13 0))
    ∷ (example2, (sound, wrong 13 0, sound))
    ∷ (set example 0 3, (wrong 13 0, wrong 13 0, wrong 13 0))
    ∷ (set example2 0 3, (wrong 13 0, wrong 13 0, wrong 13 0))
    -- the other version in front
    ∷ (set example 0 2, (wrong 20 11, wrong 13 0, wrong 20 11))
    ∷ (set example2 0 1, (wrong 14 1, wrong 14 1, wrong 13 0))
    -- elevations of 901, -901, 900, -900 and 100
    ∷ (one_at 0x00 0x00 0x03 0x85, (wrong 20 11, wrong 13 0, wrong 20 11))
    ∷ (one_at 0x00 0x00 0xFC 0x7B, (wrong 20 11, wrong 13 0, wrong 20 11))
    ∷ (one_at 0x00 0x00 0x03 0x84, (sound, wrong 13 0, wrong 21 11))
    ∷ (one_at 0x00 0x00 0xFC 0x7C, (sound, wrong 13 0, wrong 21 11))
    ∷ (one_at 0x00 0x00 0x00 0x64, (sound, wrong 13 0, wrong 21 11))
    -- an azimuth of -1800 and an elevation of 901
    ∷ (one_at 0xF8 0xF8 0x03 0x85, (wrong 17 9, wrong 13 0, wrong 17 9))
    -- the second row raised, a pair repeated, the second row at 901, the first before the azimuth of the second
    ∷ (two_rows row2 (row_at 0x00 0x00 0x00 0x64), (sound, wrong 13 0, wrong 21 23))
    ∷ (two_rows (row_at 0x00 0x00 0x00 0x64) (row_at 0x00 0x00 0x00 0x64), (wrong 17 23, wrong 13 0, wrong 17 23))
    ∷ (two_rows row2 (row_at 0x00 0x00 0x03 0x85), (wrong 20 23, wrong 13 0, wrong 20 23))
    ∷ (two_rows (row_at 0x00 0x00 0x03 0x85) (row_at 0x07 0x09 0x00 0x00), (wrong 20 11, wrong 13 0, wrong 20 11))
    -- two rows at the pole
    ∷ (two_rows (row_at 0x00 0x00 0x03 0x84) (row_at 0x01 0xC2 0x03 0x84), (sound, wrong 13 0, wrong 21 11))
    -- an azimuth repeated in version 1, and files of version 2 that are cut behind an azimuth
    ∷ (set (set head 4 0x18) 6 2 ++ row ++ row, (wrong 17 19, wrong 17 19, wrong 13 0))
    ∷ (set (set head2 4 0x12) 6 2 ++ row2 ++ (0x01 ∷ 0xC2 ∷ []), (wrong 19 23, wrong 13 0, wrong 19 23))
    ∷ (set (set head2 4 0x12) 6 2 ++ row2 ++ (0x07 ∷ 0x09 ∷ []), (wrong 17 21, wrong 13 0, wrong 17 21)) ∷ []
    )
unfolding walk
files_turned = refl

-- ---- files of 40,000 bytes, whatever stands behind what is looked at

-- what is told of every file of 40,000 bytes that begins with these
abbrev Told : List ℕ → Fault → Type 0
Told start f = (file : List ℕ) → Begins start 40000 file → fault file ≡ f

-- the example with another row count and another length, whose last two bytes these are: 39,995 is 9C3B, 32,805 is 8025
abbrev changed : ℕ → ℕ → ℕ → List ℕ
changed a b n = set (set (set example 3 a) 4 b) 6 n

module _ (start file : List ℕ) (begins : Begins start 40000 file) where
  same : SameStart (length start) start file
  same = start_agrees (length start) start file (begins.same ∙ sym (take-length start))

  sized : fault file ≡ fault_in 40000 file
  sized = ap (λ (size : ℕ). fault_in size file) begins.long

  -- a fault of the head is the file's
  by_head : (n at : ℕ) → 9 ≤ length start → 0 < n → head_fault 40000 start ≡ wrong n at
      → fault file ≡ wrong n at
  by_head n at nine some e = sized ∙ fault_is 40000 file
      ∙ sym (else_stop _ _ (wrong n at) (sym (head_agrees (length start) start file same 40000 nine ∙ e))
      (λ z. omega (arith, z, some)))

  -- and so is one behind rows that are all in the start
  by_rows : row_place start (rows_in_of start) ≤ length start → fault file ≡ fault_in 40000 start
  by_rows all = sized ∙ fault_agrees (length start) start file same 40000 all

nine_rows : Told (changed 0x9C 0x3B 9) (wrong 15 5)
unfolding walk
nine_rows file begins = by_head _ file begins 15 5 (omega arith) (omega arith) refl

one_row_and_more : Told (changed 0x9C 0x3B 1) (wrong 14 1)
unfolding walk
one_row_and_more file begins = by_rows _ file begins (omega arith)

nine_rows_in_a_buffer : Told (changed 0x80 0x25 9) (wrong 14 1)
unfolding walk
nine_rows_in_a_buffer file begins = by_head _ file begins 14 1 (omega arith) (omega arith) refl

-- ---- banks that are to be written, in version 2

pub written_no_rows : write_fault 2 (record { azimuths = []; elevations = []; length = 513; taps = [] }) ≡ wrong 15 5
unfolding write_fault or_else
written_no_rows = refl

-- rows of one tap for each ear, all of them 0.0
abbrev silent_rows : List ℤ → List ℤ → Bank
silent_rows zs es =
    record { azimuths = zs; elevations = es; length = 1; taps = replicate (2 * length zs) (fin false 0 (pos 0)) }

-- what opens this opens every definition that the writer's walk computes with
writes : Bank → Fault
unfolding write_fault rows_wrong taps_wrong or_else is_azimuth is_elevation unlike differ is_tap fits pairs_of
writes b = write_fault 2 b

banks_written : Tells (write_fault 2) (
    (silent_rows (pos 0 ∷ pos 450 ∷ pos 0 ∷ []) (pos 0 ∷ pos 0 ∷ pos 0 ∷ []), wrong 17 35)
    ∷ (silent_rows (pos 0 ∷ pos 0 ∷ []) (pos 0 ∷ pos 100 ∷ []), sound)
    ∷ (silent_rows (pos 0 ∷ pos 0 ∷ []) (pos 0 ∷ pos 901 ∷ []), wrong 20 23)
    ∷ (silent_rows (pos 1801 ∷ []) (pos 901 ∷ []), wrong 17 9) ∷ []
    )
unfolding writes
banks_written = refl

-- a row count that passes two bytes is judged as a number, whatever else the bank holds
written_65537_rows : (v : ℕ) (b : Bank) → rows b ≡ 65537 → write_fault v b ≡ wrong 15 5
unfolding write_fault or_else
written_65537_rows v b e = rw e
