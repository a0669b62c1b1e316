-- The laws of the surround gains. Crates above cite `Laws` and `Drill`.
mod Speakers
mod Ways
mod RawSteps
mod Raw
mod Clear
mod Gains
mod Meets
pub mod Laws
mod Unique
pub mod Drill
mod Worked
mod PointedAt
mod Refuted
