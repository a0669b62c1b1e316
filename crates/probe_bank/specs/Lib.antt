-- What lent lists are filled with, and what is answered.
pub mod Fillings
pub mod Answers
