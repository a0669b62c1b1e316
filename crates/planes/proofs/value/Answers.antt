-- `planes::value` meets its contract: what lies beyond the list is NaN. Assumes nothing.
use Rattle.lists.specs.Prelude.{sym, get_or-eq_default, nan, div, of_bits}
use Rattle.planes.proofs.value.Goals as goal

pub returns : goal.returns
unfolding of_bits div
returns c = sym (get_or-eq_default c.before.before.args.xs.now nan c.if-at-xs.false)
