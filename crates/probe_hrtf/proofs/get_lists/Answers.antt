-- `probe_hrtf::get_lists` meets its contract: each list is read from the place behind the one before. Assumes nothing.
use Rattle.lists.specs.Prelude.{arith}
use Rattle.probe_hrtf.specs.Requests.{listed}
use Rattle.probe_hrtf.proofs.Lists.{lists_got}
use Rattle.probe_hrtf.proofs.get_lists.Goals as goal

pub returns : goal.returns
returns c =
    let a = c.args in
    let long = c.well_formed.0.1 in
    lists_got a.args.now a.at
    (listed a.inputs.now a.weights.now a.taps.now a.rings.now a.ears.now) (omega arith)
    c.behind-at_weights.ensures c.behind-at_taps.ensures c.behind-at_rings.ensures
    c.behind-at_ears.ensures c.behind-end.ensures
    c.get_list.ensures c.get_list-2.ensures c.get_list-3.ensures
    c.get_list-4.ensures c.get_list-5.ensures
