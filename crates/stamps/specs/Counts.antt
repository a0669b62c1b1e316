-- Document 02, E5: "Late frames are dropped and counted. An ahead frame has silence put in for the missing ones, at
-- most 4,096; a larger gap resets the convolver .. Counts of late frames, silent frames and resets equal those of a
-- plain definition over the recorded list." Definitions only, over the stamps of the recorded frames in their order.
use Rattle.std.specs.Prelude.{◌+◌, ◌∷◌}
use Rattle.std.specs.Prelude.{Option, None, Some}
use Rattle.lists.specs.Prelude.{ℕ, cond, List, [], leb}
use Rattle.stamps.specs.Arrivals.{Expected}
use Rattle.stamps.specs.declared.Arrival.{Arrival}
use Rattle.stamps.specs.declared.Arrival.TheVariants.{Next, Ahead, Jump, Late}
use Rattle.stamps.specs.declared.Planned.{Planned}
use Rattle.stamps.specs.Arrivals.{coming_of, then_of, expected_after}

-- ---- what one frame adds

-- the frame itself, and the silent ones before it
abbrev pub out_one : Arrival → ℕ
out_one Next = 1
out_one (Ahead d) = d + 1
out_one Jump = 1
out_one Late = 0

abbrev pub late_one : Arrival → ℕ
late_one Next = 0
late_one (Ahead d) = 0
late_one Jump = 0
late_one Late = 1

abbrev pub silent_one : Arrival → ℕ
silent_one Next = 0
silent_one (Ahead d) = d
silent_one Jump = 0
silent_one Late = 0

abbrev pub reset_one : Arrival → ℕ
reset_one Next = 0
reset_one (Ahead d) = 0
reset_one Jump = 1
reset_one Late = 0

-- ---- of all

-- what frames with these stamps add, one after another, x being expected before the first
abbrev pub added_up : (Arrival → ℕ) → Expected → List ℕ → ℕ
added_up one x [] = 0
added_up one x (s ∷ ss) = one (coming_of x s) + added_up one (then_of x s) ss

-- frames that come out, silent ones with them
abbrev pub out_in : Expected → List ℕ → ℕ
out_in = added_up out_one

abbrev pub late_in : Expected → List ℕ → ℕ
late_in = added_up late_one

abbrev pub silent_in : Expected → List ℕ → ℕ
silent_in = added_up silent_one

abbrev pub resets_in : Expected → List ℕ → ℕ
resets_in = added_up reset_one

-- what a recording comes to
abbrev pub planned_of : Expected → List ℕ → Planned
planned_of x ss = record {
  out = out_in x ss;
  late = late_in x ss;
  silent = silent_in x ss;
  resets = resets_in x ss;
  expected = expected_after x ss;
}

-- nothing where the frames that come out do not fit in the room
abbrev pub plan_of : Expected → List ℕ → ℕ → Option Planned
plan_of x ss room = cond (leb (out_in x ss) room) (Some (planned_of x ss)) None
