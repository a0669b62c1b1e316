-- Worked files of a bank, one by one, as the pages of earlier landings name them. The tables `files_read` and
-- `files_turned` of `bank_form` have them all. Assumes nothing.
use Rattle.std.specs.Prelude.{◌≡◌, ◌∷◌, ◌++◌}
use Rattle.lists.specs.Prelude.{refl, List, [], ℕ, set, of_bits, of_fields}
use Rattle.big_endian.specs.Bytes.{value_of}
use Rattle.big_endian.specs.Fields.{field_at, signed_at, float_at}
use Rattle.big_endian.specs.Lists.{strided}
use Rattle.bank_form.specs.Fault.{Fault}
use Rattle.bank_form.specs.Bank.{is_azimuth, is_elevation, unlike, differ, is_level}
use Rattle.bank_form.specs.Version.{elevation_at}
use Rattle.bank_form.specs.Fault.{bank_in, elevation_fault, fault_of, raised_from, raised_fault, sound, wrong, or_else}
use Rattle.bank_form.specs.Fault.{field, taps_fault, is_new, row_fault, rows_fault, head_field, head_fault, fault_in}
use Rattle.bank_form.specs.Fault.{fault}
use Rattle.bank_form.proofs.Worked.{head2, row2, example2, row_at, one_at}

-- what opens this opens every definition that a walk computes with
walk : ℕ → List ℕ → Fault
unfolding fault_in head_fault head_field rows_fault row_fault elevation_fault elevation_at is_new taps_fault field
    or_else is_azimuth is_elevation unlike differ field_at signed_at float_at value_of strided of_bits of_fields
    fault_of raised_from is_level
walk size s = fault_in size s

-- a file of two rows
abbrev two_rows : List ℕ → List ℕ → List ℕ
two_rows first second = set (set head2 4 0x1C) 6 2 ++ first ++ second

-- what is told in turning a file into version 1
abbrev TurnsBack : List ℕ → Fault → Type 0
TurnsBack s f = or_else (fault_of 2 s) (raised_fault (bank_in s)) ≡ f

the_example_read : fault example2 ≡ sound
unfolding walk
the_example_read = refl

elevation_901 : fault (one_at 0x00 0x00 0x03 0x85) ≡ wrong 20 11
unfolding walk
elevation_901 = refl

level_and_raised : fault (two_rows row2 (row_at 0x00 0x00 0x00 0x64)) ≡ sound
unfolding walk
level_and_raised = refl

level_and_raised_back : TurnsBack (two_rows row2 (row_at 0x00 0x00 0x00 0x64)) (wrong 21 23)
unfolding walk
level_and_raised_back = refl

pair_repeated : fault (two_rows (row_at 0x00 0x00 0x00 0x64) (row_at 0x00 0x00 0x00 0x64)) ≡ wrong 17 23
unfolding walk
pair_repeated = refl

pair_repeated_back : TurnsBack (two_rows (row_at 0x00 0x00 0x00 0x64) (row_at 0x00 0x00 0x00 0x64)) (wrong 17 23)
unfolding walk
pair_repeated_back = refl

second_at_901 : fault (two_rows row2 (row_at 0x00 0x00 0x03 0x85)) ≡ wrong 20 23
unfolding walk
second_at_901 = refl

first_at_901_before_the_second_azimuth : fault
    (two_rows (row_at 0x00 0x00 0x03 0x85) (row_at 0x07 0x09 0x00 0x00)) ≡ wrong 20 11
unfolding walk
first_at_901_before_the_second_azimuth = refl

poles : fault (two_rows (row_at 0x00 0x00 0x03 0x84) (row_at 0x01 0xC2 0x03 0x84)) ≡ sound
unfolding walk
poles = refl

-- of version 1: its head, with the length of two rows, and a row twice
abbrev head : List ℕ
head = 0x01 ∷ 0x00 ∷ 0x00 ∷ 0x00 ∷ 0x18 ∷ 0x00 ∷ 0x02 ∷ 0x00 ∷ 0x01 ∷ []

abbrev row : List ℕ
row = 0x00 ∷ 0x00 ∷ 0x3F ∷ 0x80 ∷ 0x00 ∷ 0x00 ∷ 0x3F ∷ 0x00 ∷ 0x00 ∷ 0x00 ∷ []

azimuth_repeated_in_version_1 : fault (head ++ row ++ row) ≡ wrong 17 19
unfolding walk
azimuth_repeated_in_version_1 = refl
