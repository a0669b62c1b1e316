-- The laws of the decoder matrix. Crates above cite `Meets`.
mod Speakers
mod Filling
mod Near
mod Turned
pub mod Meets
mod LowFrequency
mod Unique
mod Refuted
