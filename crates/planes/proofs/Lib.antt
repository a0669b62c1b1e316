-- Laws that crates above cite: of planes, of ordered sums, of zeros in them, of loops that put samples and frames, and
-- of the answers to a block. Then those of this crate's loops, answers that the promise refutes, and that no two
-- answers meet one promise.
pub mod Planes
pub mod Sums
pub mod Silence
pub mod Zeros
pub mod Framing
pub mod Blocks
mod Mixing
mod Refuted
mod Unique
pub mod Played
