use Rattle.std.specs.Prelude.{◌≡◌, ◌+◌, ◌*◌}
use Rattle.lists.specs.Prelude.{drop}
use Rattle.bank_form.specs.Fault.{raised_from}
use Rattle.bank.proofs.check_level.Given as goal

abbrev pub invariant-loop-i : goal.invariant-loop-i
invariant-loop-i l = raised_from l.l 9 l.elevations ≡ raised_from l.l (9 + l.i * l.row) (drop l.i l.elevations)
