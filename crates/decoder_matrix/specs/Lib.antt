-- The words of the decoder matrix: where speakers sit, the matrix and its promise.
pub mod Speakers
pub mod Matrix
pub mod Promise
