use Rattle.std.specs.Prelude.{◌≡◌}
use Rattle.rows.proofs.Putting.{left}
use Rattle.rows.proofs.put_row.Given as goal

abbrev pub invariant-loop-x : goal.invariant-loop-x
invariant-loop-x l = left l.row l.scale l.weights l.to l.x-index ≡ left l.row l.scale l.initial.weights l.at 0
