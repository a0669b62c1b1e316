-- `bank_check::check_start` meets its contract. Assumes nothing.
use Rattle.lists.specs.Prelude.{sym, ap, ap₂, ◌∙◌, ℕ}
use Rattle.refusals.proofs.Ranges.{within_true}
use Rattle.bank_form.specs.Fault.{rows_in_of, length_in, rows_fault}
use Rattle.bank_form.proofs.Walk.{same_number, Head, head_none, fault_is}
use Rattle.bank_form.proofs.Found.{handed_on, found_stop, found_on}
use Rattle.bank_check.proofs.Starts.{checked}
use Rattle.bank_check.proofs.check_start.Goals as goal

pub returns-in_err-check_head : goal.returns-in_err-check_head
returns-in_err-check_head c =
    checked _ _ _ (handed_on _ _ c.from_residual.ensures.1
    ∙ (found_stop _ _ _ c.in_err-check_head.ensures ∙ sym (fault_is _ _)))

-- past the check of the head the counts are small
pub check_rows-requires : goal.check_rows-requires
check_rows-requires c =
    let start = c.args.start.now in
    let head : Head c.args.size start = head_none c.args.size start (same_number (sym c.in_ok-check_head.ensures)) in
    let rows = within_true 1 8 (rows_in_of start) head.few in
    let length = within_true 1 512 (length_in start) head.short in
    (rw c.get-length.ensures.bits length.1, rw c.get-rows.ensures.bits rows.1)

pub returns : goal.returns
returns c =
    let start = c.args.start.now in
    let size = c.args.size in
    let rows =
    c.check_rows.ensures
    ∙ ap₂ (λ (l n : ℕ). rows_fault size start c.get-version.result l 0 9 n) c.get-length.ensures.bits
    c.get-rows.ensures.bits
    ∙ ap (λ (v : ℕ). rows_fault size start v (length_in start) 0 9 (rows_in_of start)) c.get-version.ensures.bits in
    checked _ _ _ (rows ∙ sym (fault_is _ _ ∙ found_on _ _ c.in_ok-check_head.ensures))
