-- `ears_wire::line::put_two` meets its contract: each part stands where the last one ended. Assumes nothing.
use Rattle.std.specs.Prelude.{◌≡◌, ◌++◌}
use Rattle.lists.specs.Prelude.{List, append_assoc, ℕ, arith}
use Rattle.ears_wire.specs.Line.{decimal_digits, newline}
use Rattle.ears_wire.proofs.Parts.{put_more, put_same}
use Rattle.ears_wire.proofs.line.put_two.Goals as goal

regroup : (a b c d e : List ℕ) → ((a ++ b) ++ (c ++ d)) ++ e ≡ a ++ (b ++ (c ++ (d ++ e)))
regroup a b c d e = simp append_assoc

pub returns : goal.returns
unfolding newline
returns c =
    put_same (regroup c.args.first.now (decimal_digits c.args.m) c.args.second.now (decimal_digits c.args.n) newline)
    (put_more (put_more c.put_named-a.ensures.both c.put_named-b.ensures.both (omega arith)) c.put_part.ensures
    (omega arith))
