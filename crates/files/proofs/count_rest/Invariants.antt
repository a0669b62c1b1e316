use Rattle.std.specs.Prelude.{◌≡◌, ◌-◌}
use Rattle.lists.specs.Prelude.{length}
use Rattle.files.proofs.count_rest.Given as goal

abbrev pub invariant-loop-size : goal.invariant-loop-size
invariant-loop-size g l = length l.space ≡ 4096

abbrev pub decreases-loop-size : goal.decreases-loop-size
decreases-loop-size g l = l.most - l.size
