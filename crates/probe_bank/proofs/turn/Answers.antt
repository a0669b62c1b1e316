-- `probe_bank::turn` meets its contract. Assumes nothing.
use Rattle.probe_request.proofs.Requests.{lent_length}
use Rattle.probe_bank.proofs.Meets.{turn_short, turn_lent}
use Rattle.probe_bank.proofs.turn.Goals as goal

pub returns : goal.returns
returns c =
    let args = c.args in
    turn_lent args.operation args.args.now args.out.now _ _ (lent_length _ _ _ c.lent-b.ensures)
    c.if-args-lt2.false c.turn_into.ensures

pub returns-then-args-lt2 : goal.returns-then-args-lt2
returns-then-args-lt2 c = search turn_short
