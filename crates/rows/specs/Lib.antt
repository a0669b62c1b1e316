-- The words of the promise of `rows`.
pub mod Rows
pub mod Computed
