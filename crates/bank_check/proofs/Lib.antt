-- What the check of a start says of every file that begins so, that no two answers meet one promise, and refuted
-- answers.
mod Starts
mod Unique
mod Refuted
