-- Which family answers an operation, and a wrong answer.
mod Meets
mod Refuted
