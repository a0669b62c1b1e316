use Rattle.std.specs.Prelude.{◌≡◌, ◌+◌, ◌-◌, ◌*◌}
use Rattle.bank_form.specs.Fault.{rows_fault}
use Rattle.bank_check.proofs.check_rows.Given as goal

abbrev pub invariant-loop-i : goal.invariant-loop-i
invariant-loop-i l =
    rows_fault l.size l.s l.version l.l 0 9 l.n ≡ rows_fault l.size l.s l.version l.l l.i (9 + l.i * l.row) (l.n - l.i)
