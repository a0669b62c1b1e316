-- `probe_answer::put_list` meets its contract: `Put`. Assumes nothing.
use Rattle.lists.specs.Prelude.{ap, not}
use Rattle.probe_answer.proofs.Putting.{put_none, put_first, put_more, put_all}
use Rattle.probe_answer.proofs.put_list.Goals as goal

pub returns-then-not-has_room : goal.returns-then-not-has_room
returns-then-not-has_room g c =
    put_none g.T.Field.WIDTH g.T.Field.bits c.args.list.now _ _ c.WIDTH.ensures c.has_room.ensures
    (ap not c.if-not-has_room.true)

pub loop-element-init : goal.loop-element-init
loop-element-init g c =
    put_first g.T.Field.WIDTH g.T.Field.bits c.args.list.now _ _ c.WIDTH.ensures c.has_room.ensures
    (ap not c.if-not-has_room.false)

pub loop-element-preserved : goal.loop-element-preserved
loop-element-preserved g c =
    put_more g.T.Field.WIDTH g.T.Field.bits c.args.list.now _ _ c.WIDTH-place.ensures g.met.T.Field.narrow
    c.loop-element.invariant c.loop-element-test.true c.element-item.is c.put_at.ensures

pub returns : goal.returns
returns g c = search (put_all g.T.Field.WIDTH g.T.Field.bits)
