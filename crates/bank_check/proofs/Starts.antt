-- What the check of a start says of every file that begins so, and of the whole file. Assumes nothing.
use Rattle.std.specs.Prelude.{◌≡◌}
use Rattle.lists.specs.Prelude.{◌∙◌, List, ℕ}
use Rattle.bank_form.specs.Fault.{Fault}
use Rattle.bank_form.specs.Fault.{fault_in}
use Rattle.bank_form.proofs.Start.{start_suffices}
use Rattle.bank_check.specs.Checked.{StartCheckPromise}

pub checked : (start : List ℕ) (size : ℕ) (r : Fault) → r ≡ fault_in size start → StartCheckPromise start size r
checked start size r e = record { bits = e; words = λ file enough kept. e ∙ start_suffices start size file enough kept }
