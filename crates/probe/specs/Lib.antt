-- Which family answers an operation.
pub mod Answers
