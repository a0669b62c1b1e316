-- The promise of sine and cosine, which angles are refused, and what the program computes.
pub mod Limits
pub mod Computed
pub mod Promise
