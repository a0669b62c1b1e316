-- The weights, the promise, and what the program computes.
pub mod Weights
pub mod Computed
pub mod Promise
