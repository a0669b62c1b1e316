-- Laws that crates above cite: of the frames to go, that rings and desk stand for a history, of set-ups with the same
-- filters, and of a straight run and of two. Then of one ring, wrong ways through it, and that no two answers meet one
-- promise.
mod Ring
pub mod ToGo
pub mod Held
pub mod RingsHoldHistory
pub mod Blocks
pub mod Filters
pub mod TwoRuns
mod Refuted
mod Unique
