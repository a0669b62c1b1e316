-- `stamps::plan_on` meets its contract. Assumes nothing.
use Rattle.std.specs.Prelude.{◌≤◌}
use Rattle.lists.specs.Prelude.{sym, subst}
use Rattle.stamps.specs.declared.Arrival.{Arrival}
use Rattle.stamps.specs.Counts.{silent_one}
use Rattle.stamps.proofs.Differences.{silent_few}
use Rattle.stamps.proofs.plan_on.Goals as goal

pub share_of-share-requires : goal.share_of-share-requires
share_of-share-requires c = subst (λ (a : Arrival). silent_one a ≤ 4096) (sym c.coming-what.ensures.bits)
    (silent_few c.before.args.plan.expected c.before.args.stamp)
