-- What the crates above cite: the laws of the defined sine and cosine, the sums as a program evaluates them, and
-- reduction by 360. The other files are how these are shown.
pub mod Laws
pub mod Nested
pub mod Reduction
mod Wholes
mod Polynomials
mod Bounds
mod Terms
mod Sums
mod Places
mod Continuity
mod Turns
mod Quarters
mod Least
mod Worked
