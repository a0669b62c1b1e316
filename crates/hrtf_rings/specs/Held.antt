-- What the rings hold: the signals of the last L frames (`held_in`), the rings that hold a given past (`rings_of`),
-- what frames leave (`after_frames`), and when a state stands for a past (`Represents`). Definitions only.
use Rattle.std.specs.Prelude.{◌+◌, ◌%◌, ◌<◌, ◌≡◌, ◌∷◌}
use Rattle.lists.specs.Prelude.{ℕ, Bool, List, [], map, flatten, length, get_or, Float, nan}
use Rattle.lists.specs.Tables.{tab, chunk}
use Rattle.checks.specs.Finite.{has_nonfinite}
use Rattle.hrtf_desk.specs.Numbers.{to_go_next}
use Rattle.hrtf_history.specs.Setup.{Setup}
use Rattle.hrtf_history.specs.History.{window, after}
use Rattle.hrtf_rings.specs.Unrolled.{unrolled}
use Rattle.hrtf_rings.specs.State.{State}

-- the signals of the last L frames, the newest first, one for each speaker, as they stand in the rings
abbrev pub held_in : Setup → State → List (List Float)
held_in u t =
    tab 0 u.L (λ k. tab 0 u.speakers (λ s. get_or (unrolled t.desk.position (chunk u.L s t.rings)) k nan))

-- the rings that hold the last L frames of a past, where p is the cell that is written next: `unrolled p` undoes
-- itself, so each ring read from the newest on is the past's
abbrev pub rings_of : Setup → ℕ → List (List Float) → List Float
rings_of u p past = flatten (tab 0 u.speakers (λ s. unrolled p (window u s past)))

-- such rings, and so many frames to go
abbrev pub state_of : Setup → ℕ → ℕ → List (List Float) → State
state_of u p go past = record { rings = rings_of u p past; desk = record { position = p; to_go = go } }

-- the frames to go after frames of which it is known whether each was damaged, the newest first, so many being to go
-- before them
abbrev pub to_go_after : ℕ → ℕ → List Bool → ℕ
to_go_after L go [] = go
to_go_after L go (b ∷ bs) = to_go_next L b (to_go_after L go bs)

-- what frames leave: the position as many frames on, round the ring; the frames to go; and the rings that hold there
-- the newest L of the frames' signals and those that were held
abbrev pub after_frames : Setup → State → List (List Float) → State
after_frames u t fs = state_of u ((t.desk.position + length fs) % u.L)
    (to_go_after u.L t.desk.to_go (map has_nonfinite (after u [] fs))) (after u (held_in u t) fs)

-- rings and a desk stand for a past: wherever the position is, they hold its last L frames there, and the frames to go
-- are those that its damaged frames leave
abbrev pub Represents : Setup → List (List Float) → State → Type 0
Represents u past t =
    (t.desk.position < u.L) × (t ≡ state_of u t.desk.position (to_go_after u.L 0 (map has_nonfinite past)) past)
