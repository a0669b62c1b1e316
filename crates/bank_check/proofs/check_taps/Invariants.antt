use Rattle.std.specs.Prelude.{◌≡◌, ◌+◌, ◌-◌, ◌*◌}
use Rattle.bank_form.specs.Fault.{taps_fault}
use Rattle.bank_check.proofs.check_taps.Given as goal

abbrev pub invariant-loop-k : goal.invariant-loop-k
invariant-loop-k l = taps_fault l.size l.s l.at l.n ≡ taps_fault l.size l.s (l.at + 4 * l.k) (l.n - l.k)
