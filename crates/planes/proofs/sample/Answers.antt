-- `planes::sample` meets its contract: a place beyond the list may as well be its end. Assumes nothing.
use Rattle.lists.specs.Prelude.{sym, ◌∙◌, get_or-eq_default, nan, div, of_bits}
use Rattle.lists.proofs.Lists.{get_or_min}
use Rattle.planes.proofs.sample.Goals as goal

pub returns : goal.returns
unfolding of_bits div
returns c =
    let start = c.before.before.before in
    sym (get_or-eq_default start.args.xs.now nan c.if-at-xs.false)
    ∙ get_or_min start.args.xs.now _ _ nan c.before.place-at.ensures
