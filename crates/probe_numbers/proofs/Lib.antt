-- Which answer is given, that no two answers meet one promise, and wrong answers.
mod Meets
mod Unique
mod Refuted
