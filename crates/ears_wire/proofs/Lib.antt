-- Laws that crates above cite: of records in bytes that come in parts, of the bytes of ears, which answer is promised
-- where the lists fit, how long a frame and a line are, worked lines, and that no two answers meet one promise. Then
-- those of the loops, and wrong answers.
pub mod Ears
pub mod Cut
pub mod Lengths
pub mod Meets
pub mod Unique
mod Parts
mod Keeping
mod Refuted
pub mod Drill
