-- `bank::rows::put_bank` meets its contract. Assumes nothing.
use Rattle.lists.specs.Prelude.{arith}
use Rattle.bank_form.specs.Bank.{Bank}
use Rattle.bank.proofs.Fill.{bank_put}
use Rattle.bank.proofs.rows.put_bank.Goals as goal

pub returns : goal.returns
returns c =
    let args = c.args in
    let bank : Bank = record {
      azimuths = args.azimuths.now;
      elevations = args.elevations.now;
      length = args.l;
      taps = args.taps.now;
    } in
    let head = c.put_head in
    let rows = c.put_rows.ensures in
    record {
      bytes = bank_put args.version bank args.file.now head.new.file _ _
          (record { paired = c.requires.2; count = c.requires.3 }) (omega (arith, c.requires.4, c.requires.5))
          (omega (arith, c.requires.4)) head.ensures rows.bytes;
      azimuths = rows.azimuths;
      elevations = rows.elevations;
    }
