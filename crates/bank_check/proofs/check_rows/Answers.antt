-- `bank_check::check_rows` meets its contract. What is left to walk has the fault that the whole has. Assumes nothing.
use Rattle.std.specs.Prelude.{◌≡◌, ◌+◌, ◌-◌, ◌*◌, ◌<◌}
use Rattle.lists.specs.Prelude.{sym, ap₂, ◌∙◌, arith, eq-eqb, ne_eqb}
use Rattle.bank_form.specs.Version.{row_size}
use Rattle.bank_form.specs.Fault.{rows_fault}
use Rattle.bank_form.proofs.Walk.{rows_next, rows_end}
use Rattle.bank_form.proofs.Found.{handed_on, found_stop, found_on}
use Rattle.bank_check.proofs.check_rows.Goals as goal

pub returns-in_err-check_row : goal.returns-in_err-check_row
returns-in_err-check_row c =
    let more : 0 < c.args.n - c.loop-i.i = omega arith in
    handed_on _ _ c.from_residual.ensures.1
    ∙ (found_stop _ _ _ c.in_err-check_row.ensures ∙ sym (c.loop-i.invariant ∙ rows_next _ _ _ _ _ _ _ more))

pub loop-i-preserved : goal.loop-i-preserved
loop-i-preserved c =
    let args = c.args in
    let i = c.loop-i.i in
    let row : c.row_size-row.result ≡ row_size args.version args.l = omega (arith, c.row_size-row.ensures) in
    let more : 0 < args.n - i = omega arith in
    let there : 9 + i * c.row_size-row.result + row_size args.version args.l ≡ 9 + (i + 1) * c.row_size-row.result =
    omega (arith, row) in
    let left : args.n - i - 1 ≡ args.n - (i + 1) = omega arith in
    c.loop-i.invariant ∙ rows_next _ _ _ _ _ _ _ more ∙ found_on _ _ c.in_ok-check_row.ensures
    ∙ ap₂ (rows_fault _ _ _ _ (i + 1)) there left

pub returns-then-size-at : goal.returns-then-size-at
returns-then-size-at c =
    let last : c.loop-i.i ≡ c.args.n = omega arith in
    let done : c.args.n - c.args.n ≡ 0 = omega arith in
    sym (rw (last, done) at c.loop-i.invariant ∙ rows_end _ _ _ _ _ _ ∙ rw (eq-eqb _ _ c.if-size-at.true))

pub returns : goal.returns
returns c =
    let last : c.loop-i.i ≡ c.args.n = omega arith in
    let done : c.args.n - c.args.n ≡ 0 = omega arith in
    sym (rw (last, done) at c.loop-i.invariant ∙ rows_end _ _ _ _ _ _ ∙ rw (ne_eqb _ _ c.if-size-at.false))
