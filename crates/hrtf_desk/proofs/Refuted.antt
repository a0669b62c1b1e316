-- Wrong ways to go a frame on, each held against the record that `step` promises, in a ring of two or three cells.
-- Assumes nothing.
use Rattle.std.specs.Prelude.{◌≡◌}
use Rattle.lists.specs.Prelude.{ℕ, arith, ap, Bool, true, false}
use Rattle.hrtf_desk.specs.declared.Desk.{Desk}
use Rattle.hrtf_desk.specs.Numbers.{stepped_of}

-- a record at the first cell, with n frames to go
abbrev start : ℕ → Desk
start n = record { position = 0; to_go = n }

-- the lent record stays as it was
record_kept : (n : ℕ) (damaged : Bool) → start n ≡ stepped_of 2 damaged (start n) → ⊥
record_kept n damaged e = let z : ◌≡◌ {A = ℕ} 0 1 = ap (λ (d : Desk). d.position) e in omega arith

-- it goes two frames on
two_frames_on : (n : ℕ) (damaged : Bool) → stepped_of 3 damaged (stepped_of 3 damaged (start n)) ≡ stepped_of 3 damaged
    (start n) → ⊥
two_frames_on n damaged e = let z : ◌≡◌ {A = ℕ} 2 1 = ap (λ (d : Desk). d.position) e in omega arith

-- it goes round a ring that is a cell shorter
shorter_ring : (n : ℕ) (damaged : Bool) → stepped_of 2 damaged (record { position = 1; to_go = n })
    ≡ stepped_of 3 damaged (record { position = 1; to_go = n }) → ⊥
shorter_ring n damaged e = let z : ◌≡◌ {A = ℕ} 0 2 = ap (λ (d : Desk). d.position) e in omega arith

-- it takes a damaged frame for a sound one: one frame is to go then, and not none
damage_unseen : stepped_of 2 false (start 0) ≡ stepped_of 2 true (start 0) → ⊥
damage_unseen e = let z : ◌≡◌ {A = ℕ} 0 1 = ap (λ (d : Desk). d.to_go) e in omega arith
