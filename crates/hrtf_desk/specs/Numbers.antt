-- The two numbers of the desk's record. Document 01: "Reset makes every ring 0.0, both numbers 0", "damage leaves L-1
-- frames to go", and "one small record, changed where it stands after each frame". Definitions only.
use Rattle.std.specs.Prelude.{◌+◌, ◌-◌, ◌%◌}
use Rattle.lists.specs.Prelude.{ℕ, Bool, cond, ltb}
use Rattle.hrtf_desk.specs.declared.Desk.{Desk}

-- both numbers 0
abbrev pub zeroed : Desk
zeroed = record { position = 0; to_go = 0 }

-- the frames to go after a frame, n of them being to go before it: a frame without damage takes one off, down to none
abbrev pub to_go_next : ℕ → Bool → ℕ → ℕ
to_go_next L damaged n = cond damaged (L - 1) (n - 1)

-- the record one frame on: the position goes round the ring; where it is not below L, the record is as it was
abbrev pub stepped_of : ℕ → Bool → Desk → Desk
stepped_of L damaged d = cond (ltb d.position L)
    (record { position = (d.position + 1) % L; to_go = to_go_next L damaged d.to_go }) d
