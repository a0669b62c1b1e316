-- `ears_wire::line::put_number` meets its contract: the fewest digits are the decimal ones. Assumes nothing.
use Rattle.std.specs.Prelude.{◌≤◌}
use Rattle.lists.specs.Prelude.{◌∙◌, arith}
use Rattle.ears_wire.specs.Line.{decimal_digits}
use Rattle.ears_wire.proofs.Parts.{fewest_digits, fewest_few, put_same}
use Rattle.ears_wire.proofs.line.put_number.Goals as goal

pub put_part-requires : goal.put_part-requires
put_part-requires c =
    omega (arith, fewest_few _ _ c.ranges.n.fits c.decimal-k.ensures.len, c.decimal-k.ensures.in_bounds.0)

pub returns : goal.returns
unfolding decimal_digits
returns c =
    let few : c.decimal-k.result ≤ 20 = fewest_few _ _ c.ranges.n.fits c.decimal-k.ensures.len in
    let put = c.put_part.ensures in
    record {
      digits = put_same (c.decimal-k.ensures.digits ∙ fewest_digits 20 _ _ few c.decimal-k.ensures.len) put;
      room = omega (arith, put.ends, few, c.decimal-k.ensures.in_bounds.0);
    }
