-- `probe_bank::turn_into` meets its contract. Assumes nothing.
use Rattle.probe_bank.proofs.Meets.{file_rest, turn_put}
use Rattle.probe_bank.proofs.turn_into.Goals as goal

pub returns : goal.returns
returns c =
    let args = c.args.args.now in
    turn_put _ args _ _ c.put_written.ensures c.turned-answer.ensures (file_rest 2 args)
    c.fill.ensures
