-- `probe_replay::replay_lent` meets its contract: where the arguments have the length of all lists, what is read is
-- replayed. Assumes nothing.
use Rattle.lists.specs.Prelude.{arith}
use Rattle.probe_replay.proofs.Lines.{left, lists_played}
use Rattle.probe_replay.proofs.replay_lent.Goals as goal

pub returns-then-args-behind : goal.returns-then-args-behind
returns-then-args-behind c =
    let long = c.well_formed.0.1 in
    left c.args.args.now _ _ _ _ _ _ c.args.stamps.now (omega arith) c.get_lists-at_stamps.ensures
    c.behind.ensures c.if-args-behind.true

pub returns : goal.returns
returns c =
    let long = c.well_formed.0.1 in
    lists_played c.args.args.now _ _ _ _ _ _ c.args.stamps.now (omega arith)
    c.get_lists-at_stamps.ensures c.behind.ensures c.if-args-behind.false c.get_list.ensures
    c.play.ensures
