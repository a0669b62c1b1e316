-- `bank::convert_bank` meets its contract. Assumes nothing.
use Rattle.std.specs.Prelude.{◌≡◌}
use Rattle.lists.specs.Prelude.{sym, ◌∙◌, length}
use Rattle.bank_form.specs.Bank.{Bank}
use Rattle.bank_form.specs.Encoding.{encode}
use Rattle.bank_form.proofs.Walk.{same_number}
use Rattle.bank_form.proofs.Found.{handed, told_bad}
use Rattle.bank_form.proofs.RoundTrip.{length_encode}
use Rattle.bank.proofs.Meets.{wrote}
use Rattle.bank.proofs.Converting.{raised_fault_at, raised_told, other_length, right_length}
use Rattle.bank.proofs.Fill.{placed_all}
use Rattle.bank.proofs.convert_bank.Goals as goal

pub returns-in_err-check_elevations : goal.returns-in_err-check_elevations
returns-in_err-check_elevations c =
    let args = c.args in
    let given : Bank = record {
      azimuths = args.azimuths.now;
      elevations = args.elevations.now;
      length = args.l;
      taps = args.taps.now;
    } in
    rw (handed c.from_residual.result _ c.from_residual.ensures.1)
    (raised_told args.version given _ _ c.in_err-check_elevations.ensures
    (told_bad c.in_err-check_elevations.field-0.0))

pub returns-then-out-size : goal.returns-then-out-size
returns-then-out-size c =
    let args = c.args in
    let bank : Bank = record {
      azimuths = args.azimuths.now;
      elevations = args.elevations.now;
      length = args.l;
      taps = args.taps.now;
    } in
    let size : c.row_at-size.result ≡ length (encode args.version bank) = c.row_at-size.ensures.0
    ∙ sym (length_encode args.version bank (record { paired = c.requires.2; count = c.requires.3 })) in
    let none : (raised_fault_at args.version bank).refusal ≡ 0 =
    same_number (sym c.in_ok-check_elevations.ensures) in
    other_length _ bank _ none (λ e. c.if-out-size.true (e ∙ sym size))

pub returns : goal.returns
returns c =
    let args = c.args in
    let v = args.version in
    let bank : Bank = record {
      azimuths = args.azimuths.now;
      elevations = args.elevations.now;
      length = args.l;
      taps = args.taps.now;
    } in
    let out = args.out.now in
    let size : c.row_at-size.result ≡ length (encode v bank) = c.row_at-size.ensures.0
    ∙ sym (length_encode v bank (record { paired = c.requires.2; count = c.requires.3 })) in
    let none : (raised_fault_at v bank).refusal ≡ 0 =
    same_number (sym c.in_ok-check_elevations.ensures) in
    let long = c.if-out-size.false ∙ size in
    wrote v bank out _ _ size (c.put_bank.ensures.bytes ∙ placed_all out (encode v bank) long)
    ∙ right_length v bank out none long
