-- The formulas, the promise, and what the program computes.
pub mod Formulas
pub mod Computed
pub mod Promise
pub mod Drill
