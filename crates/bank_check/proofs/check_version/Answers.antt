-- `bank_check::check_version` meets its contract. Assumes nothing.
use Rattle.lists.specs.Prelude.{sym, ◌∙◌}
use Rattle.bank_form.specs.Fault.{fault_of}
use Rattle.bank_form.proofs.Found.{handed_on, found_stop, found_on}
use Rattle.bank_form.proofs.Exact.{exactly}
use Rattle.bank_check.proofs.check_version.Goals as goal

pub returns-in_err-check_head_field : goal.returns-in_err-check_head_field
unfolding fault_of
returns-in_err-check_head_field c = record {
  bits = handed_on _ _ c.from_residual.ensures.1
      ∙ (found_stop _ _ _ c.in_err-check_head_field.ensures);
  words = exactly _ (λ i. (c.type_inv.file i).fits);
}

pub returns : goal.returns
unfolding fault_of
returns c = record {
  bits = c.check_file.ensures.bits ∙ sym (found_on _ _ c.in_ok-check_head_field.ensures);
  words = c.check_file.ensures.words;
}
