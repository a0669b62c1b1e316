use Rattle.std.specs.Prelude.{◌≡◌, ◌+◌, ◌-◌, ◌*◌}
use Rattle.bank_form.specs.Fault.{is_new}
use Rattle.bank_check.proofs.is_new.Given as goal

abbrev pub invariant-loop-k : goal.invariant-loop-k
invariant-loop-k l =
    is_new l.s l.version l.l (record { azimuth = l.azimuth; elevation = l.elevation }) 9 l.i
    ≡ is_new l.s l.version l.l (record { azimuth = l.azimuth; elevation = l.elevation }) (9 + l.k * l.row) (l.i - l.k)
