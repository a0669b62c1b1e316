-- `bank_check::check_file` meets its contract: the start is the whole file. Assumes nothing.
use Rattle.bank_form.proofs.Exact.{exactly}
use Rattle.bank_check.proofs.check_file.Goals as goal

pub returns : goal.returns
returns c = record {
  bits = c.check_start.ensures.bits;
  words = exactly _ (λ i. (c.type_inv.file i).fits);
}
