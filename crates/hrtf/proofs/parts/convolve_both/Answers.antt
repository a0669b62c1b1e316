-- `hrtf::parts::convolve_both` meets its contract: `both_runs`. Assumes nothing.
use Rattle.lists.specs.Prelude.{suc, of_bits}
use Rattle.hrtf.proofs.SpeakerParts.{taps_before, taps_behind, both_runs}
use Rattle.hrtf.proofs.parts.convolve_both.Goals as goal

pub run_back-first-requires : goal.run_back-first-requires
run_back-first-requires c =
    let n = c.cells_up_to-split.result in
    (taps_before n c.requires.0, taps_before n c.requires.1)

pub run_back-requires : goal.run_back-requires
run_back-requires c =
    let n = c.cells_up_to-split.result in
    (taps_behind n c.requires.0, taps_behind n c.requires.1)

pub returns : goal.returns
unfolding of_bits
returns c =
    let a = c.args in
    both_runs (suc a.newest) a.ring.now a.left.now a.right.now c.cells_up_to-split.result
    c.cells_up_to-split.ensures c.requires.0 c.requires.1 c.run_back-first.ensures c.run_back.ensures
