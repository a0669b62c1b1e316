-- Document 01, 'Filter bank file', as a whole: a list of bytes is a bank file if it is the encoding of a bank that
-- keeps the form; and document 02, E6, of its version. Definitions only.
use Rattle.std.specs.Prelude.{◌≡◌}
use Rattle.lists.specs.Prelude.{true, List, ℕ}
use Rattle.bank_form.specs.Bank.{Bank, valid, level}
use Rattle.bank_form.specs.Version.{is_version}
use Rattle.bank_form.specs.Encoding.{encode}
use Rattle.bank_form.specs.Fault.{version_in, bank_in, is_file}

-- a bank that version v can hold: 1 has no elevations, so each of them is 0
pub record Holds (v : ℕ) (b : Bank) : Type 0 where
  pub known : is_version v ≡ true
  pub levelled : v ≡ 1 → level b ≡ true

-- s is the file of the bank b in version v
pub record IsFile (v : ℕ) (s : List ℕ) (b : Bank) : Type 0 where
  pub holds : Holds v b
  pub keeps : valid b ≡ true
  pub bytes : encode v b ≡ s

-- what the walk finds good is a bank file, that of the bank which stands in it; and each bank file is found good, its
-- version and its bank being those which stand in it
pub record Exactly (s : List ℕ) : Type 0 where
  pub sound : is_file s ≡ true → IsFile (version_in s) s (bank_in s)
  pub complete : (v : ℕ) (b : Bank) → IsFile v s b → (is_file s ≡ true) × (version_in s ≡ v) × (bank_in s ≡ b)
