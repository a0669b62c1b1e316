-- `probe_request::get_list` meets its contract: `Got`. Assumes nothing.
use Rattle.lists.specs.Prelude.{ap, not}
use Rattle.probe_request.proofs.Getting.{get_first, get_more, get_all, get_none}
use Rattle.probe_request.proofs.get_list.Goals as goal

pub returns-then-not-has_room : goal.returns-then-not-has_room
returns-then-not-has_room g c =
    get_none g.T.Field.read g.T.Field.WIDTH _ _ _ c.WIDTH.ensures c.has_room.ensures (ap not c.if-not-has_room.true)

pub loop-entry-init : goal.loop-entry-init
loop-entry-init g c =
    get_first g.T.Field.read g.T.Field.WIDTH _ _ _ c.WIDTH.ensures c.has_room.ensures (ap not c.if-not-has_room.false)

pub loop-entry-preserved : goal.loop-entry-preserved
loop-entry-preserved g c =
    get_more g.T.Field.read g.T.Field.WIDTH _ _ _ c.WIDTH-place.ensures c.loop-entry.invariant c.loop-entry-test.true
    c.get_from.ensures

pub returns : goal.returns
returns g c = search (get_all g.T.Field.read g.T.Field.WIDTH)
