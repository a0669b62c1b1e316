-- The five lists; from what is lent and read, through what is played, reset or summed, to what the three operations
-- answer; that no two answers meet one promise, and wrong answers.
pub mod Lists
mod Blocks
mod Resets
mod Sums
mod Unique
mod Refuted
