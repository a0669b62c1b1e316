-- Laws that crates above cite: that what is set up fits the convolver. Then those of this crate's loop and answers,
-- that no two answers meet one promise, and worked answers.
mod Standing
mod Arranging
pub mod Accepted
mod Unique
mod Worked
