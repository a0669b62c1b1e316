-- The laws of `cues`: of its lists and of its two loops; that no two answers meet a promise, and answers that they
-- refute.
pub mod Cues
mod Judging
pub mod Halving
mod Unique
mod Refuted
