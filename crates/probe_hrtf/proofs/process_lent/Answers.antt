-- `probe_hrtf::process_lent` meets its contract: where the arguments have the length of all lists, what is read is
-- played. Assumes nothing.
use Rattle.lists.specs.Prelude.{arith}
use Rattle.probe_hrtf.specs.Answers.{block_by}
use Rattle.probe_hrtf.proofs.Lists.{end_missed, read_end}
use Rattle.probe_hrtf.proofs.Blocks.{lists_played}
use Rattle.probe_hrtf.proofs.process_lent.Goals as goal

pub returns-then-args-end : goal.returns-then-args-end
unfolding block_by
returns-then-args-end c =
    let long = c.well_formed.0.1 in
    end_missed _ _ _ _ c.if-args-end.true (read_end _ _ _ c.get_lists-end.ensures) (omega arith)

pub returns : goal.returns
returns c =
    let long = c.well_formed.0.1 in
    lists_played c.args.args.now _ _ _ _ _ _ c.get_lists-end.ensures c.if-args-end.false
    c.play.ensures (omega arith)
