-- When an answer is given and over which weights, that no two answers meet one promise, and wrong answers.
mod Meets
mod Unique
mod Refuted
