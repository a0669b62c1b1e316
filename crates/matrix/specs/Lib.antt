-- The words of the promise of `matrix`.
pub mod Mirror
pub mod Rows
pub mod Promise
pub mod Computed
pub mod Ears
