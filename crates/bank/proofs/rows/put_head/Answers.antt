-- `bank::rows::put_head` meets its contract. Assumes nothing.
use Rattle.bank.proofs.Fill.{head_put}
use Rattle.bank.proofs.rows.put_head.Goals as goal

pub returns : goal.returns
returns c =
    let fourth = c.before.before in
    let third = fourth.before.before.before.before in
    let second = third.before.before.before.before in
    let first = second.before.before.before.before in
    let start = first.before.before.before in
    head_put _ _ _ _ _ _ _ _ _ start.requires first.put.ensures second.put-2.ensures third.put-3.ensures
    fourth.put-4.ensures
