-- `probe_bank::read` meets its contract. Assumes nothing.
use Rattle.probe_request.proofs.Requests.{lent_length}
use Rattle.probe_bank.proofs.Meets.{read_short, read_lent}
use Rattle.probe_bank.proofs.read.Goals as goal

pub returns : goal.returns
returns c =
    let args = c.args in
    read_lent args.args.now args.out.now _ _ _ _ (lent_length _ _ _ c.lent-a.ensures)
    (lent_length _ _ _ c.lent-e.ensures)
    (lent_length _ _ _ c.lent-t.ensures) c.if-args-lt6.false c.read_into.ensures

pub returns-then-args-lt6 : goal.returns-then-args-lt6
returns-then-args-lt6 c = search read_short
