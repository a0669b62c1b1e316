-- `probe_bank::put_written` meets its contract. Assumes nothing.
use Rattle.probe_bank.proofs.Meets.{written_shown}
use Rattle.probe_bank.proofs.put_written.Goals as goal

pub returns : goal.returns
returns c =
    let args = c.args in
    written_shown args.out.now args.answer args.file.now c.unwrap_or.ensures c.put_fault-a.ensures
    c.put-b.ensures c.put_bytes.ensures
