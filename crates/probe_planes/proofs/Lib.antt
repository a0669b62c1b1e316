-- What the requests give and what is answered to them, that no two answers meet one promise, and wrong answers.
mod Panned
mod Decoded
mod Unique
mod Refuted
