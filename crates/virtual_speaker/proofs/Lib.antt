-- What the proofs of `virtual_speaker` share. Crates above cite `Laws`.
mod Cosines
mod Near
mod Meets
mod Positions
pub mod Laws
mod Unique
mod Worked
mod Refuted
