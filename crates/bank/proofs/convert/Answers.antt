-- `bank::convert` meets its contract: what is read into the lists is the file's bank. Assumes nothing.
use Rattle.std.specs.Prelude.{◌≡◌, ◌*◌, ◌≤◌}
use Rattle.lists.specs.Prelude.{refl, sym, ap, ◌∙◌, List, ℕ, arith, Float, binary32, of_bits, ℤ, pos, length}
use Rattle.lists.specs.Prelude.{length-replicate, length-take-le, replicate, take, []}
use Rattle.refusals.proofs.Ranges.{within_true}
use Rattle.bank_form.specs.Fault.{Fault}
use Rattle.bank_form.specs.Bank.{Bank, rows}
use Rattle.bank_form.specs.Fault.{length_in, bank_in, fault_of}
use Rattle.bank_form.proofs.Walk.{same_number}
use Rattle.bank_form.proofs.Found.{handed, told_bad}
use Rattle.bank_form.proofs.Exact.{Keeps, keeps, is_file_lem, rows_in}
use Rattle.bank_check.specs.Checked.{VersionCheckPromise}
use Rattle.bank.specs.Reading.{ReadOutcome, bank_found, read_bank}
use Rattle.bank.specs.Conversion.{converted_bank}
use Rattle.bank.proofs.Converting.{version_told, version_right, right_version}
use Rattle.bank.proofs.Laws.{found}
use Rattle.bank.proofs.Fill.{taps_reach}
use Rattle.bank.proofs.convert.Goals as goal

-- past the check of the file
module _ (from : ℕ) (file : List ℕ) (fault : Fault) (checked : VersionCheckPromise from file fault)
    (passed : fault.refusal ≡ 0) where
  none : (fault_of from file).refusal ≡ 0
  none = same_number (sym checked.bits) ∙ passed

  form : Keeps (bank_in file)
  form = keeps (bank_in file) (checked.words.sound (is_file_lem file (right_version from from file [] none).1)).keeps

  few : rows (bank_in file) ≤ 8
  few = (within_true 1 8 (rows (bank_in file)) form.few).1

  short : length_in file ≤ 512
  short = (within_true 1 512 (length_in file) form.short).1

  -- what is known once the lists are filled
  module _ (read : ReadOutcome) (zs es : List ℤ) (xs : List Float)
      (filled : read ≡ read_bank (bank_in file) zs es xs) where
    same : bank_found read ≡ bank_in file
    same = ap bank_found filled ∙ found (bank_in file) _ _ _ form.paired form.count

    -- how much of the lists is the bank's
    rows_few : read.answer.rows ≤ 8
    rows_few = omega (arith, ap (λ (o : ReadOutcome). o.answer.rows) filled, few)

    taps_few : read.answer.length ≤ 512
    taps_few = omega (arith, ap (λ (o : ReadOutcome). o.answer.length) filled, short)

    reach : 2 * read.answer.rows * read.answer.length ≤ 8192
    reach = omega (arith, taps_reach read.answer.rows 8 read.answer.length rows_few taps_few)

-- how long the lists are, which were filled as they were made
module _ (zs : List ℤ) (made : length zs ≡ length (replicate {A = ℤ} 8 (pos 0))) where
  eight : length zs ≡ 8
  eight = made ∙ length-replicate {A = ℤ} 8 (pos 0)

  of_eight : (n : ℕ) → n ≤ 8 → n ≤ length zs
  of_eight n h = omega (arith, eight, h)

  rows_found : (n : ℕ) → n ≤ 8 → length (take n zs) ≡ n
  rows_found n h = length-take-le n zs (of_eight n h)

module _ (xs : List Float) (made : length xs ≡ length (replicate {A = Float} 8192 (of_bits binary32 0))) where
  of_all : (n : ℕ) → n ≤ 8192 → n ≤ length xs
  of_all n h = omega (arith, made, length-replicate {A = Float} 8192 (of_bits binary32 0), h)

  taps_found : (n : ℕ) → n ≤ 8192 → length (take n xs) ≡ n
  taps_found n h = length-take-le n xs (of_all n h)

pub returns-in_err-check_version : goal.returns-in_err-check_version
returns-in_err-check_version c =
    rw (handed c.from_residual.result _ c.from_residual.ensures.1)
    (version_told _ _ _ _ _ c.in_err-check_version.ensures.bits (told_bad c.in_err-check_version.field-0.0))

pub fill_bank-read-requires : goal.fill_bank-read-requires
fill_bank-read-requires c = (
  omega (arith, few _ _ _ c.in_ok-check_version.ensures refl, rows_in c.args.file.now),
  short _ _ _ c.in_ok-check_version.ensures refl,
  length-replicate {A = ℤ} 8 (pos 0),
  length-replicate {A = ℤ} 8 (pos 0),
  length-replicate {A = Float} 8192 (of_bits binary32 0),
)

pub slice_bounds-azimuths-end : goal.slice_bounds-azimuths-end
slice_bounds-azimuths-end c =
    let read = c.fill_bank-read in
    let n = rows_few _ _ _ c.in_ok-check_version.ensures refl _ _ _ _ read.ensures in
    of_eight _ read.auto.azimuths _ n

pub slice_bounds-convert_bank-end : goal.slice_bounds-convert_bank-end
slice_bounds-convert_bank-end c =
    let read = c.fill_bank-read in
    let n = rows_few _ _ _ c.in_ok-check_version.ensures refl _ _ _ _ read.ensures in
    sym (rows_found _ read.auto.azimuths _ n)

pub slice_bounds-elevations-end : goal.slice_bounds-elevations-end
slice_bounds-elevations-end c =
    let read = c.fill_bank-read in
    let n = rows_few _ _ _ c.in_ok-check_version.ensures refl _ _ _ _ read.ensures in
    of_eight _ read.auto.elevations _ n

pub slice_bounds-convert_bank-end-2 : goal.slice_bounds-convert_bank-end-2
slice_bounds-convert_bank-end-2 c =
    let read = c.fill_bank-read in
    let n = rows_few _ _ _ c.in_ok-check_version.ensures refl _ _ _ _ read.ensures in
    sym (rows_found _ read.auto.elevations _ n)

pub overflow_mul-taps : goal.overflow_mul-taps
overflow_mul-taps c =
    let n = rows_few _ _ _ c.in_ok-check_version.ensures refl _ _ _ _ c.fill_bank-read.ensures in
    omega (arith, n)

pub overflow_mul-taps-2 : goal.overflow_mul-taps-2
overflow_mul-taps-2 c =
    let k = reach _ _ _ c.in_ok-check_version.ensures refl _ _ _ _ c.fill_bank-read.ensures in
    omega (arith, k)

pub slice_bounds-taps-end : goal.slice_bounds-taps-end
slice_bounds-taps-end c =
    let read = c.fill_bank-read in
    let k = reach _ _ _ c.in_ok-check_version.ensures refl _ _ _ _ read.ensures in
    of_all _ read.auto.taps _ k

pub slice_bounds-convert_bank-end-3 : goal.slice_bounds-convert_bank-end-3
slice_bounds-convert_bank-end-3 c =
    let read = c.fill_bank-read in
    let k = reach _ _ _ c.in_ok-check_version.ensures refl _ _ _ _ read.ensures in
    sym (taps_found _ read.auto.taps _ k)

pub convert_bank-requires : goal.convert_bank-requires
convert_bank-requires c =
    let read = c.fill_bank-read in
    let n = rows_few _ _ _ c.in_ok-check_version.ensures refl _ _ _ _ read.ensures in
    let l = taps_few _ _ _ c.in_ok-check_version.ensures refl _ _ _ _ read.ensures in
    let k = reach _ _ _ c.in_ok-check_version.ensures refl _ _ _ _ read.ensures in
    let rows = rows_found _ read.auto.azimuths _ n in
    let raised = rows_found _ read.auto.elevations _ n in
    let taps = taps_found _ read.auto.taps _ k in (
      l,
      omega (arith, n, rows),
      raised ∙ sym rows,
      taps ∙ omega (arith, ap (λ (n : ℕ). n * (2 * read.result.length)) rows),
    )

pub returns : goal.returns
returns c =
    let args = c.args in
    let read = same _ _ _ c.in_ok-check_version.ensures refl _ _ _ _ c.fill_bank-read.ensures in
    c.convert_bank.ensures ∙ ap (λ (b : Bank). converted_bank args.to b args.out.now) read
    ∙ version_right args.from args.to args.file.now args.out.now
    (none _ _ _ c.in_ok-check_version.ensures refl)
