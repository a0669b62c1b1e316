use Rattle.std.specs.Prelude.{◌≡◌, ◌-◌, ◌<◌}
use Rattle.bank_choice.specs.Computed.{nearest_from}
use Rattle.bank_choice.proofs.nearest.Given as goal

abbrev pub invariant-loop-j : goal.invariant-loop-j
invariant-loop-j l =
    (l.best < l.n)
    × (nearest_from l.azimuths l.elevations l.azimuth l.elevation 0 1 (l.n - 1)
    ≡ nearest_from l.azimuths l.elevations l.azimuth l.elevation l.best l.j (l.n - l.j))
