-- The words of the promise of `replay`; then what the functions under it ask and leave.
pub mod Recording
pub mod Heard
pub mod Promise
pub mod Computed
