-- `bank::read_start` meets its contract. Assumes nothing.
use Rattle.lists.specs.Prelude.{sym, ◌∙◌}
use Rattle.refusals.proofs.Ranges.{within_true}
use Rattle.bank_form.specs.Fault.{rows_in_of, length_in}
use Rattle.bank_form.proofs.Walk.{same_number, whole}
use Rattle.bank_form.proofs.Found.{handed, told_bad}
use Rattle.bank.proofs.Meets.{lists_are, reads_start, lists_lent, start_lent, broken, accepted}
use Rattle.bank.proofs.read_start.Goals as goal

pub returns-then-not-lists_fit : goal.returns-then-not-lists_fit
returns-then-not-lists_fit c =
    let unfit = sym c.lists_fit.ensures ∙ c.if-not-lists_fit.true in
    reads_start _ _ _ _ _ _ (lists_lent _ _ _ _ _ unfit)

-- past the test of the lists they have their lengths
pub returns-then-not-is_enough : goal.returns-then-not-is_enough
returns-then-not-is_enough c =
    let fit = sym c.lists_fit.ensures ∙ c.if-not-lists_fit.false in
    let few = sym c.is_enough.ensures ∙ c.if-not-is_enough.true in
    reads_start _ _ _ _ _ _ (start_lent _ _ _ _ _ fit few)

-- past the test of the start it is enough
pub returns-in_err-check_start : goal.returns-in_err-check_start
returns-in_err-check_start c =
    let fit = sym c.lists_fit.ensures ∙ c.if-not-lists_fit.false in
    let enough = sym c.is_enough.ensures ∙ c.if-not-is_enough.false in
    rw (handed c.from_residual.result _ c.from_residual.ensures.1)
    (reads_start _ _ _ _ _ _ (broken _ _ _ _ _ fit enough _ c.in_err-check_start.ensures.bits
    (told_bad c.in_err-check_start.field-0.0)))

-- and past the check there is no fault
pub fill_bank-requires : goal.fill_bank-requires
fill_bank-requires c =
    let args = c.args in
    let fit = sym c.lists_fit.ensures ∙ c.if-not-lists_fit.false in
    let none = same_number (sym c.in_ok-check_start.ensures.bits) in
    let lists = lists_are args.azimuths.now args.elevations.now args.taps.now fit in
    let head = (whole args.size args.start.now none).head in (
      (within_true 1 8 (rows_in_of args.start.now) head.few).1,
      (within_true 1 512 (length_in args.start.now) head.short).1,
      lists.azimuths,
      lists.elevations,
      lists.taps,
    )

pub returns : goal.returns
returns c =
    let fit = sym c.lists_fit.ensures ∙ c.if-not-lists_fit.false in
    let enough = sym c.is_enough.ensures ∙ c.if-not-is_enough.false in
    let none = same_number (sym c.in_ok-check_start.ensures.bits) in
    reads_start _ _ _ _ _ _ (c.fill_bank.ensures ∙ accepted _ _ _ _ _ fit enough none)
