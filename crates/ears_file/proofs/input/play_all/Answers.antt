-- `ears_file::input::play_all` meets its contract: before each step the record, the rings and the bytes stand for some
-- line. Assumes nothing.
use Rattle.std.specs.Prelude.{◌++◌}
use Rattle.lists.specs.Prelude.{[]}
use Rattle.hrtf_checks.specs.Call.{setup_of}
use Rattle.ears_file.proofs.Turning.{represents_fits}
use Rattle.ears_file.proofs.Stepping.{start_stands, went_on}
use Rattle.ears_file.proofs.input.play_all.Goals as goal

pub loop-init : goal.loop-init
loop-init g c =
    ([], start_stands _ _ _ _ c.requires.blocks_accepted.long c.start-progress.ensures c.requires.rings_value)

-- what stands for a line fits
pub step-requires-clause-state_fits : goal.step-requires-clause-state_fits
step-requires-clause-state_fits g c =
    let a = c.args in
    let come = c.loop.invariant in
    represents_fits (setup_of a.shape a.weights.now a.row_of.now a.taps.now) _ _ come.1.history

pub loop-preserved : goal.loop-preserved
loop-preserved g c =
    let come = c.loop.invariant in
    let more = c.in_ok-stepped.ensures.further in
    (come.0 ++ more.0, went_on _ _ _ _ _ _ _ c.in-Some.is more.2 come.0 come.1)
