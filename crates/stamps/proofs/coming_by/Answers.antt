-- `stamps::coming_by` meets its contract, by the ends of each kind. Assumes nothing.
use Rattle.lists.specs.Prelude.{sym, ap, ◌∙◌, arith}
use Rattle.stamps.specs.Arrivals.{coming_by}
use Rattle.stamps.proofs.Differences.{difference_none, difference_few, difference_more, difference_half}
use Rattle.stamps.proofs.coming_by.Goals as goal

pub returns-then-difference-eq0 : goal.returns-then-difference-eq0
returns-then-difference-eq0 c = sym (ap coming_by c.if-difference-eq0.true ∙ difference_none)

pub returns-then-difference-le4096 : goal.returns-then-difference-le4096
returns-then-difference-le4096 c = sym (difference_few c.before.before.args.difference (omega arith) (omega arith))

pub returns-then-difference-lt2147483648 : goal.returns-then-difference-lt2147483648
returns-then-difference-lt2147483648 c =
    sym (difference_more c.before.before.before.args.difference (omega arith) (omega arith))

pub returns : goal.returns
returns c = sym (difference_half c.before.before.before.args.difference (omega arith))
