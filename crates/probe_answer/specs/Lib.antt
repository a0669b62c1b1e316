-- How an answer is put together.
pub mod Answers
