-- Laws that crates above cite: of events one after another, of what is heard of them, and of what a call hands back.
-- Then those of this crate's loops, and that no two answers meet one promise.
mod Blocks
mod Gathering
mod Ears
pub mod Eventful
mod Convolver
mod Turning
pub mod Judging
pub mod Hearing
pub mod Meets
mod Unique
