-- `ears_wire::line::put_named` meets its contract: the digits stand where the word ended. Assumes nothing.
use Rattle.lists.specs.Prelude.{arith}
use Rattle.ears_wire.proofs.Parts.{put_more}
use Rattle.ears_wire.proofs.line.put_named.Goals as goal

pub returns : goal.returns
returns c =
    record { both = put_more c.put_part-a.ensures c.put_number.ensures.digits (omega arith); room = omega arith }
