-- The words of the promises of `hrtf`.
pub mod Promise
pub mod Reset
pub mod Computed
