-- `panner::surround_gains` meets its contract: `Gains`. Assumes nothing.
use Rattle.lists.specs.Prelude.{refl}
use Rattle.std.proofs.lemmas.Result.{err_from_is_err_and}
use Rattle.panner.proofs.Gains.{surround_by_layout, surround_by_azimuth, surround_accepted}
use Rattle.panner.proofs.surround_gains.Goals as goal

pub returns-in_err-planes : goal.returns-in_err-planes
returns-in_err-planes c =
    let p = err_from_is_err_and c.from_residual.result c.from_residual.ensures.1 in
    rw (p.1, p.2) (surround_by_layout c.args.layout c.args.azimuth _ c.in_err-planes.ensures)

pub returns-in_err-gains : goal.returns-in_err-gains
returns-in_err-gains c =
    let p = err_from_is_err_and c.from_residual-in_err-gains.result c.from_residual-in_err-gains.ensures.1 in
    rw (p.1, p.2) (surround_by_azimuth c.args.layout c.args.azimuth _ c.in_err-gains.ensures)

pub returns : goal.returns
returns c = surround_accepted c.args.layout c.args.azimuth _ c.in_ok-gains.ensures _ _ c.in_ok-planes.ensures refl refl
