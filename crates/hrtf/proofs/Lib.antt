-- Laws that crates above cite: of what a call hands back. Then those of this crate's loops, that no two answers meet
-- one promise, and wrong answers.
pub mod Meets
mod SpeakerParts
mod Ears
mod Playing
mod Unique
mod Refuted
