-- A plan with one frame more, and how many frames are fed. Definitions only; they speak of the program, and nobody has
-- to believe them.
use Rattle.std.specs.Prelude.{◌+◌, ◌-◌, ◌∷◌}
use Rattle.std.specs.Prelude.{Option, None, Some}
use Rattle.lists.specs.Prelude.{ℕ, suc, cond, List, [], ltb}
use Rattle.stamps.specs.declared.Arrival.{Arrival}
use Rattle.stamps.specs.declared.Planned.{Planned}
use Rattle.stamps.specs.declared.Share.{Share}
use Rattle.stamps.specs.Arrivals.{coming_of, then_of}
use Rattle.stamps.specs.Events.{Event, feed, restart}
use Rattle.stamps.specs.Counts.{out_one, late_one, silent_one, reset_one}

abbrev pub share_of : Arrival → Share
share_of c = record { out = out_one c; late = late_one c; silent = silent_one c; resets = reset_one c }

abbrev pub on_by : Arrival → Planned → ℕ → Planned
on_by c p s =
    record {
      out = p.out + out_one c;
      late = p.late + late_one c;
      silent = p.silent + silent_one c;
      resets = p.resets + reset_one c;
      expected = then_of p.expected s;
    }

abbrev pub plan_on : Planned → ℕ → ℕ → Option Planned
plan_on p s room =
    cond (ltb (room - p.out) (out_one (coming_of p.expected s))) None (Some (on_by (coming_of p.expected s) p s))

-- how many frames are fed: `fed` without the frames
abbrev pub feeds_in : {F : Type 0} → List (Event F) → ℕ
feeds_in [] = 0
feeds_in (feed s f ∷ es) = suc (feeds_in es)
feeds_in (restart ∷ es) = feeds_in es
