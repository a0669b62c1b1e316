-- `ears_wire::line::frames_line` meets its contract. Assumes nothing.
use Rattle.ears_wire.specs.Line.{frames_word, unsettled_word, frames_line}
use Rattle.ears_wire.proofs.Parts.{lined_not, lined_put}
use Rattle.ears_wire.proofs.line.frames_line.Goals as goal

pub returns-then-out-lt-ROOM : goal.returns-then-out-lt-ROOM
returns-then-out-lt-ROOM c = lined_not _ _ c.if-out-lt-ROOM.true

pub returns : goal.returns
unfolding frames_line frames_word unsettled_word
returns c = search lined_put
