-- The rings, what they hold and when they stand for a past, and what the program does with them.
pub mod Unrolled
pub mod State
pub mod Held
pub mod Computed
