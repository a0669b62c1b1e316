-- Worked recordings: the counts at every boundary, and a recording that rolls over, loses frames, has a late one and
-- jumps, event by event. Assumes nothing.
use Rattle.std.specs.Prelude.{◌≡◌, ◌∷◌}
use Rattle.lists.specs.Prelude.{ℕ, refl, []}
use Rattle.std.specs.Prelude.{None, Some}
use Rattle.stamps.specs.declared.Planned.{Planned}
use Rattle.stamps.specs.Arrivals.{coming_by}
use Rattle.stamps.specs.Counts.{planned_of}
use Rattle.stamps.specs.Events.{Recorded, feed, restart, events_of}

abbrev told : ℕ → ℕ → ℕ → ℕ → ℕ → Planned
told out late silent resets next =
    record { out = out; late = late; silent = silent; resets = resets; expected = Some next }

-- a gap of 4,096, and of 4,097
gap_4096 : planned_of None (0 ∷ 4097 ∷ []) ≡ told 4098 0 4096 0 4098
unfolding coming_by
gap_4096 = refl

gap_4097 : planned_of None (0 ∷ 4098 ∷ []) ≡ told 2 0 0 1 4099
unfolding coming_by
gap_4097 = refl

-- half a turn less one, and half a turn
half_less_one : planned_of None (0 ∷ 2147483648 ∷ []) ≡ told 2 0 0 1 2147483649
unfolding coming_by
half_less_one = refl

half_turn : planned_of None (0 ∷ 2147483649 ∷ []) ≡ told 1 1 0 0 1
unfolding coming_by
half_turn = refl

-- the same stamp again, and a gap across zero
again : planned_of None (7 ∷ 7 ∷ []) ≡ told 1 1 0 0 8
unfolding coming_by
again = refl

across_zero : planned_of None (4294967294 ∷ 1 ∷ []) ≡ told 4 0 2 0 2
unfolding coming_by
across_zero = refl

-- ---- the recording of the drill

abbrev at : ℕ → ℕ → Recorded ℕ
at s f = record { stamp = s; frame = f }

stamped : planned_of None (4294967294 ∷ 4294967295 ∷ 0 ∷ 3 ∷ 2 ∷ 4 ∷ 5000 ∷ 5001 ∷ []) ≡ told 9 1 2 1 5002
unfolding coming_by
stamped = refl

-- 0 is silence
events : events_of 0 None (at 4294967294 11 ∷ at 4294967295 12 ∷ at 0 13 ∷ at 3 14 ∷ at 2 15 ∷ at 4 16 ∷ at 5000 17
    ∷ at 5001 18 ∷ [])
    ≡ feed 4294967294 11 ∷ feed 4294967295 12 ∷ feed 0 13 ∷ feed 1 0 ∷ feed 2 0 ∷ feed 3 14 ∷ feed 4 16 ∷ restart
    ∷ feed 5000 17 ∷ feed 5001 18 ∷ []
unfolding coming_by
events = refl
