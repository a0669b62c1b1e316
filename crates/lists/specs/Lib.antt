-- The words in which every crate above says what a list holds, and what it is that a promise has one answer; calls
-- one after another.
pub mod Prelude
pub mod Tables
pub mod Placed
pub mod ForAll
pub mod Pairwise
pub mod OneAnswer
pub mod Calls
