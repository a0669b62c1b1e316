-- Document 01, 'Filter bank file': "Writing takes an azimuth per row, L, 2 x rows x L taps and a buffer of exactly the
-- file's length. Other lengths are 5." Document 02, E6: "the writer takes one [elevation] per row and writes version
-- 2"; E2: "The writer gives the same numbers, with the offset where the field would stand." And 'Refusal numbers' of
-- document 01: "A refusal returns its number, counts of 0, ..; lent memory stays the same." Definitions only.
use Rattle.std.specs.Prelude.{◌≡◌, ◌&&◌, ◌*◌, Result, Ok, Err}
use Rattle.lists.specs.Prelude.{Bool, List, ℕ, eqb, length}
use Rattle.refusals.specs.Refusals.{answered}
use Rattle.bank_form.specs.Fault.{Fault}
use Rattle.bank_form.specs.Bank.{Bank, rows}
use Rattle.bank_form.specs.Encoding.{encode}
use Rattle.bank_form.specs.Fault.{or_else, unless}
use Rattle.bank_form.specs.WriteFault.{write_fault}
use Rattle.refusals.specs.Numbers.{number_of}
use Rattle.bank_form.specs.declared.Fault.{Fault as FaultFound}

-- what writing and both conversions answer: a refusal, with the offset at which the field that is wrong stands or would
-- stand, or 0 with the bytes of the file
pub record BankWritten : Type 0 where
  pub refusal : ℕ
  pub offset : ℕ
  pub bytes : ℕ

abbrev pub written_answer : Result ℕ FaultFound → BankWritten
written_answer (Ok n) = record { refusal = 0; offset = 0; bytes = n }
written_answer (Err f) = record { refusal = number_of f.refusal; offset = f.offset; bytes = 0 }

-- what a call leaves: its answer, and the buffer that it was lent
pub record WriteOutcome : Type 0 where
  pub answer : BankWritten
  pub file : List ℕ

-- the lengths that a bank asks for: an elevation for each row, 2 x rows x L taps, and as many bytes as its file has
abbrev pub lengths_fit : Bank → List ℕ → Bool
lengths_fit b file = eqb (length b.elevations) (rows b) && eqb (length b.taps) (2 * rows b * b.length)
    && eqb (length file) (length (encode 2 b))

-- other lengths are refused before what is wrong with the bank
unfoldable pub write_refusal : Bank → List ℕ → Fault
write_refusal b file = or_else (unless (lengths_fit b file) 5 0) (write_fault 2 b)

abbrev pub write_refused : Fault → List ℕ → WriteOutcome
write_refused f file = record { answer = record { refusal = f.refusal; offset = f.offset; bytes = 0 }; file = file }

-- the file of a bank in version v
abbrev pub write_bank : ℕ → Bank → WriteOutcome
write_bank v b = record { answer = record { refusal = 0; offset = 0; bytes = length (encode v b) }; file = encode v b }

abbrev pub write_as : Fault → ℕ → Bank → List ℕ → WriteOutcome
write_as f v b file = answered f.refusal (write_bank v b) (λ n. write_refused f file)

unfoldable pub write_outcome : Bank → List ℕ → WriteOutcome
write_outcome b file = write_as (write_refusal b file) 2 b file

abbrev pub WritePromise : Bank → List ℕ → WriteOutcome → Type 0
WritePromise b file o = o ≡ write_outcome b file
