-- `panner::command_gains` meets its contract: `Meets`. Assumes nothing.
use Rattle.lists.specs.Prelude.{refl}
use Rattle.std.proofs.lemmas.Result.{err_from_is_err_and}
use Rattle.refusals.proofs.First.{not_accepted}
use Rattle.refusals.proofs.Numbers.{number_above}
use Rattle.panner.proofs.Meets.{gives_refused, gives_gains}
use Rattle.panner.proofs.command_gains.Goals as goal

pub returns-in_err-commanded : goal.returns-in_err-commanded
returns-in_err-commanded c =
    let p = err_from_is_err_and c.from_residual.result c.from_residual.ensures.1 in
    rw (p.1, p.2) (gives_refused c.args.command c.args.layout _ c.in_err-commanded.ensures
    (not_accepted _ (number_above _) refl))

pub returns : goal.returns
returns c = gives_gains c.args.command c.args.layout _ c.in_ok-commanded.ensures refl _ c.narrowed-gains.ensures
