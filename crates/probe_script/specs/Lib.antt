-- What is answered to a request of this family.
pub mod Answers
