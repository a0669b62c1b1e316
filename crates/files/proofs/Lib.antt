-- What stands at the start of a list, which crates above may cite; what is kept of a file; what is unique of a bank;
-- and wrong answers.
pub mod Parts
mod Sized
mod Unique
mod Refuted
