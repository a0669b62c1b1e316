-- What stands in a request for a replay, and what is answered.
pub mod Requests
pub mod Answers
