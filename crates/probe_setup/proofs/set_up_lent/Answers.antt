-- `probe_setup::set_up_lent` meets its contract. Assumes nothing.
use Rattle.probe_setup.proofs.Arranged.{arranges}
use Rattle.probe_setup.proofs.set_up_lent.Goals as goal

pub returns : goal.returns
returns c =
    let a = c.args in
    arranges a.operation a.args.now a.at a.out.now a.azimuths.now _ a.elevations.now _
    a.weights.now _ _ _ _ c.requires c.get_list.ensures
    c.get_list-2.ensures c.get_list-3.ensures c.eight-row_of.ensures
    c.arrange-arranged.ensures c.put_arranged.ensures
