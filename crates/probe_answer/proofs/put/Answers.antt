-- `probe_answer::put` meets its contract. Assumes nothing.
use Rattle.std.specs.Prelude.{◌+◌, ◌*◌, ◌≤◌}
use Rattle.lists.specs.Prelude.{arith, length, ap, not}
use Rattle.probe_answer.proofs.Putting.{room_inside, field_none, field_all}
use Rattle.probe_answer.proofs.put.Goals as goal

pub overflow_add-result : goal.overflow_add-result
overflow_add-result c =
    let past_room = c.before.before.before.before in
    let a = past_room.before.before.before.before.args in
    let inside : a.at + 1 * a.count ≤ length a.out.now = room_inside _ _ past_room.before.has_room.ensures
    (ap not past_room.if-not-has_room.false) in
    omega arith

pub returns-then-not-has_room : goal.returns-then-not-has_room
returns-then-not-has_room c = search field_none

pub returns : goal.returns
returns c = search field_all
