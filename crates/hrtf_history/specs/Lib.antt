-- The words in which the convolver's promises and demand 3 are said, and what the marked drill examples play.
pub mod Setup
pub mod Signals
pub mod History
pub mod Drill
