-- `angles::radians` meets its contract. Assumes nothing.
use Rattle.lists.specs.Prelude.{sym, ap, ◌∙◌}
use Rattle.angles.specs.Computed.{radian_units}
use Rattle.angles.proofs.Room.{short_low, short_high}
use Rattle.angles.proofs.radians.Goals as goal

pub returns-then-a-le-HALF : goal.returns-then-a-le-HALF
unfolding radian_units
returns-then-a-le-HALF c = c.times.ensures
    ∙ sym (ap radian_units (short_low c.before.before.args.a c.before.if-a-le-HALF.true))

pub returns-else-a-le-HALF : goal.returns-else-a-le-HALF
unfolding radian_units
returns-else-a-le-HALF c = c.times-else-a-le-HALF.ensures
    ∙ sym (ap radian_units (short_high c.before.before.args.a c.before.if-a-le-HALF.false))
