-- `probe_bank::put_lists` meets its contract. Assumes nothing.
use Rattle.probe_bank.specs.Answers.{then_lists}
use Rattle.probe_bank.proofs.put_lists.Goals as goal

pub returns : goal.returns
unfolding then_lists
returns c = cc
