-- Laws that a caller's proof cites.
pub mod First
pub mod Chains
pub mod Ranges
pub mod Counts
pub mod Numbers
mod Unique
