-- The laws of sine and cosine. Crates above cite `Laws`, and `Limits` for angles of their own.
pub mod Limits
mod Room
mod Fixed
mod Waves
mod Floats
mod Near
mod Exact
mod Meets
pub mod Laws
mod Unique
mod Worked
mod Refuted
