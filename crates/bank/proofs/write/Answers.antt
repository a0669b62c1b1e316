-- `bank::write` meets its contract. Assumes nothing.
use Rattle.lists.specs.Prelude.{sym, ◌∙◌, ℕ, length-replicate}
use Rattle.bank_form.specs.Bank.{Bank, rows}
use Rattle.bank_form.specs.Version.{largest_file}
use Rattle.bank_form.proofs.Walk.{same_number}
use Rattle.bank_form.proofs.Found.{handed, told_bad}
use Rattle.bank_form.proofs.RoundTrip.{length_encode}
use Rattle.bank.proofs.Meets.{LengthsFit, sizes_fit_lem, sizes_refused, breaks, counts_fit, counts_break}
use Rattle.bank.proofs.write.Goals as goal

pub returns-then-not-lengths_fit : goal.returns-then-not-lengths_fit
returns-then-not-lengths_fit c =
    sizes_refused _ _ (sym c.lengths_fit.ensures ∙ c.if-not-lengths_fit.true)

-- past the test of the lengths
pub returns-in_err-check_counts : goal.returns-in_err-check_counts
returns-in_err-check_counts c =
    let args = c.args in
    let bank : Bank = record {
      azimuths = args.azimuths.now;
      elevations = args.elevations.now;
      length = args.length;
      taps = args.taps.now;
    } in
    let file = args.file.now in
    let lengths : LengthsFit bank file =
    sizes_fit_lem bank file (sym c.lengths_fit.ensures ∙ c.if-not-lengths_fit.false) in
    let bad = told_bad c.in_err-check_counts.field-0.0 in
    rw (handed c.from_residual.result _ c.from_residual.ensures.1)
    (breaks bank file lengths _ (counts_break 2 bank _ c.in_err-check_counts.ensures bad) bad)

pub write_checked-requires : goal.write_checked-requires
write_checked-requires c =
    let args = c.args in
    let bank : Bank = record {
      azimuths = args.azimuths.now;
      elevations = args.elevations.now;
      length = args.length;
      taps = args.taps.now;
    } in
    let file = args.file.now in
    let fit : LengthsFit bank file =
    sizes_fit_lem bank file (sym c.lengths_fit.ensures ∙ c.if-not-lengths_fit.false) in
    let few = counts_fit (rows bank) bank.length
    (same_number (sym c.in_ok-check_counts.ensures)) in (
      few.1,
      few.0,
      fit.counted.paired,
      fit.counted.count,
      fit.size ∙ length_encode 2 bank fit.counted,
      length-replicate {A = ℕ} largest_file 0,
    )
