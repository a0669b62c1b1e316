-- Laws that a caller's proof cites, that no two answers meet one promise, and wrong answers refuted.
pub mod Bytes
pub mod Fields
pub mod Signed
pub mod Lists
pub mod Starts
mod Room
mod Patterns
mod Unique
mod Refuted
