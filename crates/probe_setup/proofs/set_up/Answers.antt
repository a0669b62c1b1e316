-- `probe_setup::set_up` meets its contract. Assumes nothing.
use Rattle.probe_request.proofs.Requests.{lent_places, lent_length}
use Rattle.probe_setup.proofs.Arranged.{set_up_none, set_up_some, set_up_fits}
use Rattle.probe_setup.proofs.set_up.Goals as goal

pub set_up_lent-requires : goal.set_up_lent-requires
set_up_lent-requires c =
    set_up_fits _ _ _ _ _ _ _ _ (lent_places _ _ _ c.lent-a.ensures)
    (lent_places _ _ _ c.lent-e.ensures) (lent_places _ _ _ c.lent-w.ensures)
    c.if-args-at.false

pub returns : goal.returns
returns c =
    let a = c.args in
    set_up_some a.operation a.args.now a.at a.out.now _ _ _
    (lent_length _ _ _ c.lent-a.ensures) (lent_length _ _ _ c.lent-e.ensures)
    (lent_length _ _ _ c.lent-w.ensures) _
    (set_up_fits _ _ _ _ _ _ _ _ (lent_places _ _ _ c.lent-a.ensures)
    (lent_places _ _ _ c.lent-e.ensures) (lent_places _ _ _ c.lent-w.ensures)
    c.if-args-at.false)
    c.set_up_lent.ensures

pub returns-then-args-at : goal.returns-then-args-at
returns-then-args-at c = search set_up_none
