-- What was counted, and what is left to count, make the whole.
use Rattle.std.specs.Prelude.{◌≡◌, ◌+◌, ◌≤◌}
use Rattle.probe_bank.specs.Fillings.{count_changed}
use Rattle.probe_bank.proofs.fillings.count_changed.Given as goal

abbrev pub invariant-loop-i : goal.invariant-loop-i
invariant-loop-i l = (l.count ≤ l.i) × (l.count + count_changed l.i l.list ≡ count_changed l.from l.list)
