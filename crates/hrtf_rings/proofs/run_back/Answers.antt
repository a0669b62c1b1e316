-- `hrtf_rings::run_back` meets its contract: `Running`. Assumes nothing.
use Rattle.hrtf_rings.proofs.TwoRuns.{running_more, running_all}
use Rattle.hrtf_rings.proofs.run_back.Goals as goal

pub loop-k-preserved : goal.loop-k-preserved
loop-k-preserved c = search running_more

pub returns : goal.returns
returns c = running_all c.loop-k.invariant c.loop-k-test.false
