-- What the proofs of `harmonics` share. Crates above cite `Laws` and the drill table's items.
mod Near
mod Meets
pub mod Laws
mod Unique
pub mod Drill
mod Refuted
pub mod Coefficients
