-- Laws that crates above cite: the walk finds the row that a speaker takes, by a key that orders rows as the words do;
-- at one elevation it is document 01's row; when no choice is refused; and the marked example. Then this crate's own,
-- that no two answers meet the promise and only one row does, worked choices and refuted answers.
pub mod KeyOrder
pub mod Takes
pub mod Level
pub mod Meets
pub mod Drill
mod Unique
mod Worked
mod Refuted
