-- What the check of a file answers: the first fault in byte order (document 02, E2 and E6); there is none exactly if
-- the bytes are a bank file (document 01, 'Filter bank file'). Definitions only.
use Rattle.std.specs.Prelude.{◌≡◌}
use Rattle.lists.specs.Prelude.{List, ℕ, T, length}
use Rattle.bank_form.specs.Fault.{Fault}
use Rattle.bank_form.specs.Fault.{fault_in, fault, fault_of}
use Rattle.bank_form.specs.FaultLaws.{TakenFrom, suffices}
use Rattle.bank_form.specs.File.{Exactly}

-- of a start and a size: where the start is enough, the fault of every file that they were taken from
pub record StartCheckPromise (start : List ℕ) (size : ℕ) (r : Fault) : Type 0 where
  pub bits : r ≡ fault_in size start
  pub words : (file : List ℕ) → T (suffices (length start) size) → TakenFrom start size file → r ≡ fault file

-- of a whole file
pub record CheckPromise (s : List ℕ) (r : Fault) : Type 0 where
  pub bits : r ≡ fault s
  pub words : Exactly s

-- of a file that has to be of version v
pub record VersionCheckPromise (v : ℕ) (s : List ℕ) (r : Fault) : Type 0 where
  pub bits : r ≡ fault_of v s
  pub words : Exactly s
