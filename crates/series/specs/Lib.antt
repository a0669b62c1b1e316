-- The defined sine and cosine.
pub mod Sums
pub mod Angles
