-- `ears_wire::line::put_refused` meets its contract: each part stands where the last one ended. Assumes nothing.
use Rattle.lists.specs.Prelude.{append_assoc, arith}
use Rattle.ears_wire.specs.Line.{decimal_digits, refused_word, newline, refused_line}
use Rattle.ears_wire.proofs.Parts.{put_more, put_same}
use Rattle.ears_wire.proofs.line.put_refused.Goals as goal

pub returns : goal.returns
unfolding refused_line refused_word newline
returns c =
    put_same (append_assoc refused_word (decimal_digits c.args.refusal) newline)
    (put_more c.put_named-a.ensures.both c.put_part.ensures (omega arith))
