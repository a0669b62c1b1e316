-- `angles::nesting` meets its contract. Assumes nothing.
use Rattle.std.specs.Prelude.{◌+◌, ◌*◌, ◌/◌}
use Rattle.lists.specs.Prelude.{ap, ℕ}
use Rattle.angles.specs.Computed.{nesting}
use Rattle.angles.proofs.nesting.Goals as goal

pub returns : goal.returns
unfolding nesting
returns c = ap (λ (x : ℕ). x / ((c.before.args.j + 1) * (c.before.args.j + 2))) c.times.ensures
