-- `hrtf_rings::convolve` meets its contract: `two_runs`. Assumes nothing.
use Rattle.lists.specs.Prelude.{suc, of_bits}
use Rattle.hrtf_rings.proofs.TwoRuns.{two_runs}
use Rattle.hrtf_rings.proofs.convolve.Goals as goal

pub returns : goal.returns
unfolding of_bits
returns c =
    two_runs (suc c.args.newest) c.args.ring.now c.args.taps.now c.cells_up_to-split.result c.min-used.result
    c.cells_up_to-split.ensures c.min-used.ensures c.run_back-first.ensures c.run_back.ensures
