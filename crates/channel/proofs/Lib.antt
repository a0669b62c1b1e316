-- What the proofs of `channel` share, and the laws that crates above cite.
pub mod Tables
pub mod Counts
pub mod Orders
pub mod Unique
mod Refuted
