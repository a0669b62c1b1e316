-- `probe_answer::put_bytes` meets its contract. Assumes nothing.
use Rattle.lists.specs.Prelude.{ap, not}
use Rattle.probe_answer.proofs.Putting.{bytes_none, bytes_put}
use Rattle.probe_answer.proofs.put_bytes.Goals as goal

pub returns-then-not-has_room : goal.returns-then-not-has_room
returns-then-not-has_room c = bytes_none _ _ _ c.has_room.ensures (ap not c.if-not-has_room.true)

pub returns : goal.returns
returns c = bytes_put _ _ _ _ c.has_room.ensures (ap not c.if-not-has_room.false) c.copy_from_slice.ensures.after
