-- `probe_hrtf::reset_lent` meets its contract: where the arguments have the length, the cells are read, and the outcome
-- is put part by part. Assumes nothing.
use Rattle.lists.specs.Prelude.{arith}
use Rattle.probe_hrtf.specs.Answers.{reset_by_of}
use Rattle.probe_hrtf.proofs.Lists.{end_missed}
use Rattle.probe_hrtf.proofs.Resets.{rested}
use Rattle.probe_hrtf.proofs.reset_lent.Goals as goal

pub returns-then-args-behind : goal.returns-then-args-behind
unfolding reset_by_of
returns-then-args-behind c =
    let long = c.well_formed.0.1 in
    end_missed _ _ _ _ c.if-args-behind.true c.behind.ensures (omega arith)

pub returns : goal.returns
returns c =
    let long = c.well_formed.0.1 in
    rested c.args.args.now _ _ c.put_list.ensures c.put_desk-after_desk.ensures
    c.put-after_refusal.ensures
    c.reset-rested.ensures.bits c.number_in.ensures c.unwrap_or.ensures c.desk-given.ensures c.number.ensures
    c.number-2.ensures c.get_list.ensures c.if-args-behind.false
    c.behind.ensures (omega arith)
