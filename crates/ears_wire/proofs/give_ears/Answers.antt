-- `ears_wire::give_ears` meets its contract: one store of four bytes after the other. Assumes nothing.
use Rattle.std.specs.Prelude.{◌*◌}
use Rattle.lists.specs.Prelude.{ap, ◌∙◌, arith}
use Rattle.big_endian.specs.Fields.{with_float}
use Rattle.ears_wire.proofs.Ears.{both_stored}
use Rattle.ears_wire.proofs.give_ears.Goals as goal

pub returns : goal.returns
returns c =
    let at_put_f322 = c.before.before in
    let at_put_f32 = at_put_f322.before.before.before.before in
    let at_sample2 = at_put_f32.before.before in
    let at_sample = at_sample2.before in
    let start = at_sample.before.before.before in
    let a = start.args in
    both_stored a.out.now _ _ (a.n * 8) _ _ (omega arith)
    (at_put_f32.put_f32.ensures ∙ ap (with_float _ _) at_sample.sample-left.ensures)
    (at_put_f322.put_f32-2.ensures ∙ ap (with_float _ _) at_sample2.sample-right.ensures)
