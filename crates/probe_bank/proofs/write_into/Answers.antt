-- `probe_bank::write_into` meets its contract. Assumes nothing.
use Rattle.lists.specs.Prelude.{length}
use Rattle.probe_bank.proofs.Meets.{write_misfit, write_read}
use Rattle.probe_bank.proofs.write_into.Goals as goal

pub returns : goal.returns
returns c =
    let args = c.args in
    write_read args.args.now args.azimuths.now args.elevations.now args.taps.now
    (length args.file.now) args.out.now _ _ _ _ _ c.if-args-taps_at.false
    c.get_list.ensures c.get_list-2.ensures c.get_list-3.ensures
    c.number-l.ensures c.write_from.ensures

pub returns-then-args-taps_at : goal.returns-then-args-taps_at
returns-then-args-taps_at c = search write_misfit
