-- The theorems of demand 3 on the frames after encoding, and of what is damage there; that there are drills, three that
-- are worked out, and the readings and answers that are refuted.
mod Passing
mod Silence
mod Damage
pub mod Demand
pub mod Playing
mod Worked
mod Refuted
