-- Laws of the count of changed places and of what is read and put, that no two answers meet one promise, and wrong
-- answers.
mod Changes
mod Meets
mod Unique
mod Refuted
