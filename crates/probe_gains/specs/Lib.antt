-- What each operation answers.
pub mod Answers
