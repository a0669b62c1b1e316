-- What a request gives, one turn of a loop that reads a list, that no two answers meet one promise, and wrong answers.
pub mod Requests
mod Getting
mod Unique
mod Refuted
