-- `probe_bank::put_read` meets its contract. Assumes nothing.
use Rattle.probe_bank.proofs.Meets.{read_shown}
use Rattle.probe_bank.proofs.put_read.Goals as goal

pub returns : goal.returns
returns c =
    let args = c.args in
    read_shown args.out.now args.answer args.shown args.azimuths.now args.elevations.now args.taps.now
    c.unwrap_or-read.ensures c.put_fault-a.ensures
    c.put-b.ensures c.put-c.ensures c.put_lists.ensures
