use Rattle.std.specs.Prelude.{◌≡◌}
use Rattle.lists.specs.Placed.{placed}
use Rattle.bank_form.specs.Fault.{azimuths_from, elevations_from, taps_from}
use Rattle.bank.proofs.rows.fill_rows.Given as goal

abbrev pub invariant-loop-i : goal.invariant-loop-i
invariant-loop-i l =
    (l.azimuths ≡ placed l.initial.azimuths 0 (azimuths_from l.file l.version l.l 9 l.i))
    × (l.elevations ≡ placed l.initial.elevations 0 (elevations_from l.file l.version l.l 9 l.i))
    × (l.taps ≡ placed l.initial.taps 0 (taps_from l.file l.version l.l 9 l.i))
