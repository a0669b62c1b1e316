-- `angles::is_inside` meets its contract. Assumes nothing.
use Rattle.std.specs.Prelude.{◌&&◌}
use Rattle.lists.specs.Prelude.{sym, ap, ◌∙◌, Bool, le}
use Rattle.angles.specs.Limits.{is_inside}
use Rattle.angles.proofs.is_inside.Goals as goal

pub returns-then-angle-limit : goal.returns-then-angle-limit
unfolding is_inside
returns-then-angle-limit c = sym
    (ap (λ (b : Bool). b && le c.before.args.angle c.before.args.limit) c.if-angle-limit.true)

pub returns-else-angle-limit : goal.returns-else-angle-limit
unfolding is_inside
returns-else-angle-limit c =
    c.if-angle-limit.false
    ∙ sym (ap (λ (b : Bool). b && le c.before.args.angle c.before.args.limit) c.if-angle-limit.false)
