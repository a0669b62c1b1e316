-- What stands in a request for the convolver, and what is answered.
pub mod Requests
pub mod Answers
