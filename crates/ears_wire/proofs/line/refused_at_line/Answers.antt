-- `ears_wire::line::refused_at_line` meets its contract. Assumes nothing.
use Rattle.ears_wire.specs.Line.{refused_word, at_word, refused_at_line}
use Rattle.ears_wire.proofs.Parts.{lined_not, lined_put}
use Rattle.ears_wire.proofs.line.refused_at_line.Goals as goal

pub returns-then-out-lt-ROOM : goal.returns-then-out-lt-ROOM
returns-then-out-lt-ROOM c = lined_not _ _ c.if-out-lt-ROOM.true

pub returns : goal.returns
unfolding refused_at_line refused_word at_word
returns c = search lined_put
