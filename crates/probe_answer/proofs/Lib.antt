-- Laws of answers and of what stands in them that a caller's proof cites, one turn of a loop that puts a list, that no
-- two answers meet one promise, and wrong answers.
pub mod Meets
pub mod Standing
mod Putting
mod Unique
mod Refuted
