-- Document 02, E6: "Version 1 files [..] turn into version 2 and back to the same bytes [..]. Version 2 turns back only
-- if every elevation is 0, and exactly then. Each conversion gives 13 for the wrong version; an output not of the new
-- file's length is 5, after 21. [..] 21 has elevations, in the backward conversion only, once the file is sound".
-- Definitions only.
use Rattle.std.specs.Prelude.{◌≡◌}
use Rattle.lists.specs.Prelude.{true, List, ℕ, eqb, ℤ, length}
use Rattle.bank_form.specs.Fault.{Fault}
use Rattle.bank_form.specs.Bank.{Bank, level}
use Rattle.bank_form.specs.Version.{without}
use Rattle.bank_form.specs.Encoding.{encode}
use Rattle.bank_form.specs.Fault.{bank_in, sound, or_else, unless, fault_of, raised_from}
use Rattle.bank_form.specs.File.{IsFile}
use Rattle.bank.specs.Writing.{WriteOutcome, write_bank, write_as}

-- version 1 has no place for elevations
abbrev pub raised_for : ℕ → ℕ → List ℤ → Fault
raised_for v l es = without v (raised_from l 9 es) sound

-- what is wrong with a bank that keeps the form, to be put into an output in version v
abbrev pub output_fault : ℕ → Bank → List ℕ → Fault
output_fault v b out =
    or_else (raised_for v b.length b.elevations) (unless (eqb (length out) (length (encode v b))) 5 0)

abbrev pub converted_bank : ℕ → Bank → List ℕ → WriteOutcome
converted_bank v b out = write_as (output_fault v b out) v b out

-- a file that has to be of one version, to be turned into another
unfoldable pub conversion_refusal : ℕ → ℕ → List ℕ → List ℕ → Fault
conversion_refusal from to file out = or_else (fault_of from file) (output_fault to (bank_in file) out)

unfoldable pub conversion : ℕ → ℕ → List ℕ → List ℕ → WriteOutcome
conversion from to file out = write_as (conversion_refusal from to file out) to (bank_in file) out

abbrev pub ConversionPromise : ℕ → ℕ → List ℕ → List ℕ → WriteOutcome → Type 0
ConversionPromise from to file out o = o ≡ conversion from to file out

-- ---- the two conversions

-- accepted exactly if the file is one of version 1 and the output has the length of the new file; then that is the file
-- of the same bank
pub record ToVersion2Words (file out : List ℕ) (o : WriteOutcome) : Type 0 where
  pub turned : o.answer.refusal ≡ 0 → IsFile 1 file (bank_in file) × IsFile 2 o.file (bank_in file)
      × (length out ≡ length o.file)
  pub accepted : (b : Bank) → IsFile 1 file b → length out ≡ length (encode 2 b) → o ≡ write_bank 2 b

pub record ToVersion2Promise (file out : List ℕ) (o : WriteOutcome) : Type 0 where
  pub bits : ConversionPromise 1 2 file out o
  pub words : ToVersion2Words file out o

-- "only if every elevation is 0, and exactly then"
pub record ToVersion1Words (file out : List ℕ) (o : WriteOutcome) : Type 0 where
  pub turned : o.answer.refusal ≡ 0 → (level (bank_in file) ≡ true) × IsFile 2 file (bank_in file)
      × IsFile 1 o.file (bank_in file) × (length out ≡ length o.file)
  pub accepted : (b : Bank) → IsFile 2 file b → level b ≡ true → length out ≡ length (encode 1 b) → o ≡ write_bank 1 b

pub record ToVersion1Promise (file out : List ℕ) (o : WriteOutcome) : Type 0 where
  pub bits : ConversionPromise 2 1 file out o
  pub words : ToVersion1Words file out o
