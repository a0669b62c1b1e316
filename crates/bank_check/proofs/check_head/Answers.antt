-- `bank_check::check_head` meets its contract. Assumes nothing.
use Rattle.std.specs.Prelude.{◌≡◌, ◌-◌}
use Rattle.lists.specs.Prelude.{sym, ap₂, ◌∙◌, ℕ, List}
use Rattle.bank_form.specs.Fault.{head_field, head_fault}
use Rattle.bank_form.proofs.Found.{handed_on, found_stop, found_on}
use Rattle.bank_check.proofs.check_head.Goals as goal

-- what the field of the length comes to
length_field : (size : ℕ) (s : List ℕ) (rest : ℕ) → rest ≡ size - 5
    → head_field size s 1 4 14 rest rest ≡ head_field size s 1 4 14 (size - 5) (size - 5)
length_field size s rest e = ap₂ (head_field size s 1 4 14) e e

pub returns-in_err-check_head_field : goal.returns-in_err-check_head_field
unfolding head_fault
returns-in_err-check_head_field c = handed_on _ _ c.from_residual.ensures.1
    ∙ (found_stop _ _ _ c.in_err-check_head_field.ensures)

pub returns-in_err-check_head_field-2 : goal.returns-in_err-check_head_field-2
unfolding head_fault
returns-in_err-check_head_field-2 c =
    handed_on _ _ c.from_residual-in_err-check_head_field-2.ensures.1
    ∙ (found_stop _ _ _ (c.in_err-check_head_field-2.ensures ∙ length_field _ _ _ c.saturating_sub-rest.ensures)
    ∙ sym (found_on _ _ c.in_ok-check_head_field.ensures))

pub returns-in_err-check_head_field-3 : goal.returns-in_err-check_head_field-3
unfolding head_fault
returns-in_err-check_head_field-3 c =
    handed_on _ _ c.from_residual-in_err-check_head_field-3.ensures.1
    ∙ (found_stop _ _ _ c.in_err-check_head_field-3.ensures
    ∙ sym (found_on _ _ c.in_ok-check_head_field.ensures
    ∙ found_on _ _ (c.in_ok-check_head_field-2.ensures ∙ length_field _ _ _ c.saturating_sub-rest.ensures)))

pub returns : goal.returns
unfolding head_fault
returns c =
    c.check_head_field-4.ensures
    ∙ sym (found_on _ _ c.in_ok-check_head_field.ensures
    ∙ found_on _ _ (c.in_ok-check_head_field-2.ensures ∙ length_field _ _ _ c.saturating_sub-rest.ensures)
    ∙ found_on _ _ c.in_ok-check_head_field-3.ensures)
