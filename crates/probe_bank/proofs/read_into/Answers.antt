-- `probe_bank::read_into` meets its contract. Assumes nothing.
use Rattle.probe_bank.proofs.Meets.{file_rest, read_put}
use Rattle.probe_bank.proofs.read_into.Goals as goal

pub returns : goal.returns
returns c =
    let read = c.read-answer in
    let args = c.args.args.now in
    read_put args _ _ _ _ _ _ _ _ _ _ _ (file_rest 6 args) c.fill.ensures
    c.fill-2.ensures c.fill-3.ensures read.ensures.bits
    read.auto.taps c.lent-shown.ensures c.put_read.ensures
