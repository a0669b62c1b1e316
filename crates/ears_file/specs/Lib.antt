-- The words of the promises of `ears_file`.
pub mod Lines
pub mod Promise
pub mod Turns
