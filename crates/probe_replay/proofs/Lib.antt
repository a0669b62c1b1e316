-- From what is lent and read, through what is replayed, to what is answered; that no two answers meet one promise, and
-- wrong answers.
mod Lines
mod Unique
mod Refuted
