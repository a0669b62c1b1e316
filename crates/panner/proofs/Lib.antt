-- The laws of the panner: of what a command plays, which crates above cite, of its answers, of single samples, that no
-- two answers meet the promise, and answers that it refutes.
pub mod Halves
mod Gains
mod Meets
mod Played
mod Unique
mod Refuted
