-- The answer to a stretch; that no two answers meet one promise; and wrong answers.
mod Shown
mod Unique
mod Refuted
