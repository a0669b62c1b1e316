-- `probe_planes::pan` meets its contract. Assumes nothing.
use Rattle.probe_request.proofs.Requests.{lent_places, lent_length}
use Rattle.probe_planes.proofs.Panned.{pan_none, pan_some, pan_fits}
use Rattle.probe_planes.proofs.pan.Goals as goal

pub pan_lent-requires : goal.pan_lent-requires
pan_lent-requires c =
    pan_fits _ _ _ _ _ (lent_places _ _ _ c.lent-i.ensures) (lent_places _ _ _ c.lent-o.ensures) c.if-args-i.false

pub returns-then-args-i : goal.returns-then-args-i
returns-then-args-i c = search pan_none

pub returns : goal.returns
returns c =
    pan_some c.args.args.now c.args.out.now _ _ _ (lent_length _ _ _ c.lent-i.ensures)
    (lent_length _ _ _ c.lent-o.ensures)
    (pan_fits _ _ _ _ _ (lent_places _ _ _ c.lent-i.ensures) (lent_places _ _ _ c.lent-o.ensures) c.if-args-i.false)
    c.pan_lent.ensures
