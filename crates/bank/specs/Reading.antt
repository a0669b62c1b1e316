-- Document 01, 'Filter bank file': "Reading fills lent lists of 8 azimuths and 8,192 taps in file order and returns
-- rows and L; entries beyond them stay. .. Other lengths are 5." Document 02, E6: "Reading also fills a list of 8
-- elevations"; "Version 1 files are still read, at elevation 0". E2: "Each of the new numbers also returns the offset
-- of the first byte of the offending field". And 'Refusal numbers' of document 01: "A refusal returns its number,
-- counts of 0, ..; lent memory stays the same." Definitions only. 5 comes before the numbers of a bank, and has no
-- place.
use Rattle.std.specs.Prelude.{◌≡◌, ◌&&◌, ◌*◌, Result, Ok, Err}
use Rattle.lists.specs.Prelude.{List, ℕ, T, eqb, Float, ℤ, length, take}
use Rattle.refusals.specs.Refusals.{answered}
use Rattle.lists.specs.Placed.{placed}
use Rattle.big_endian.specs.Bytes.{AreBytes}
use Rattle.bank_form.specs.Fault.{Fault}
use Rattle.bank_form.specs.Bank.{Bank, rows}
use Rattle.bank_form.specs.Fault.{bank_in, or_else, unless, fault_in, fault}
use Rattle.bank_form.specs.FaultLaws.{TakenFrom, suffices}
use Rattle.bank_form.specs.File.{Exactly}
use Rattle.refusals.specs.Numbers.{number_of}
use Rattle.bank_form.specs.declared.Fault.{Fault as FaultFound}
use Rattle.bank.specs.declared.BankRead.{BankRead as Counts}

-- what reading answers: a refusal, with the offset of the field that is wrong (of 19, the file's size), or 0 with the
-- rows and L
pub record BankRead : Type 0 where
  pub refusal : ℕ
  pub offset : ℕ
  pub rows : ℕ
  pub length : ℕ

abbrev pub read_answer : Result Counts FaultFound → BankRead
read_answer (Ok n) = record { refusal = 0; offset = 0; rows = n.rows; length = n.length }
read_answer (Err f) = record { refusal = number_of f.refusal; offset = f.offset; rows = 0; length = 0 }

-- what a call leaves: its answer, and the lists that it was lent
pub record ReadOutcome : Type 0 where
  pub answer : BankRead
  pub azimuths : List ℤ
  pub elevations : List ℤ
  pub taps : List Float

-- lists of other lengths are refused before what is wrong with the bank
abbrev pub after_lists : Fault → List ℤ → List ℤ → List Float → Fault
after_lists bank zs es xs = or_else (unless (eqb (length zs) 8 && eqb (length es) 8 && eqb (length xs) 8192) 5 0) bank

abbrev pub read_refused : Fault → List ℤ → List ℤ → List Float → ReadOutcome
read_refused f zs es xs = record {
  answer = record { refusal = f.refusal; offset = f.offset; rows = 0; length = 0 };
  azimuths = zs;
  elevations = es;
  taps = xs;
}

-- the bank's entries, and beyond them what stood there
abbrev pub read_bank : Bank → List ℤ → List ℤ → List Float → ReadOutcome
read_bank b zs es xs = record {
  answer = record { refusal = 0; offset = 0; rows = rows b; length = b.length };
  azimuths = placed zs 0 b.azimuths;
  elevations = placed es 0 b.elevations;
  taps = placed xs 0 b.taps;
}

abbrev pub read_as : Fault → Bank → List ℤ → List ℤ → List Float → ReadOutcome
read_as f b zs es xs = answered f.refusal (read_bank b zs es xs) (λ n. read_refused f zs es xs)

-- ---- a whole file

unfoldable pub read_refusal : List ℕ → List ℤ → List ℤ → List Float → Fault
read_refusal file zs es xs = after_lists (fault file) zs es xs

unfoldable pub read_outcome : List ℕ → List ℤ → List ℤ → List Float → ReadOutcome
read_outcome file zs es xs = read_as (read_refusal file zs es xs) (bank_in file) zs es xs

pub record ReadPromise (file : List ℕ) (zs es : List ℤ) (xs : List Float) (o : ReadOutcome) : Type 0 where
  pub bits : o ≡ read_outcome file zs es xs
  pub words : Exactly file

-- ---- a file that is given by its start and its size

-- a start that is not enough is a lent length that doesn't fit
unfoldable pub start_refusal : List ℕ → ℕ → List ℤ → List ℤ → List Float → Fault
start_refusal start size zs es xs =
    after_lists (or_else (unless (suffices (length start) size) 5 0) (fault_in size start)) zs es xs

unfoldable pub start_outcome : List ℕ → ℕ → List ℤ → List ℤ → List Float → ReadOutcome
start_outcome start size zs es xs = read_as (start_refusal start size zs es xs) (bank_in start) zs es xs

-- where it is enough, what `read` gives for every file that the start and the size were taken from
pub record ReadStartPromise (start : List ℕ) (size : ℕ) (zs es : List ℤ) (xs : List Float) (o : ReadOutcome) : Type
    0 where
  pub bits : o ≡ start_outcome start size zs es xs
  pub words : (file : List ℕ) → AreBytes file → T (suffices (length start) size) → TakenFrom start size file
      → ReadPromise file zs es xs o

-- ---- the bank that a caller finds in its lists after an accepted reading

abbrev pub bank_found : ReadOutcome → Bank
bank_found o = record {
  azimuths = take o.answer.rows o.azimuths;
  elevations = take o.answer.rows o.elevations;
  length = o.answer.length;
  taps = take (2 * o.answer.rows * o.answer.length) o.taps;
}
