-- Laws that crates above cite, the marked drill examples, a finite sample whose signal is damaged, and numbers that
-- tell the order of each sum.
pub mod Signals
pub mod Windows
pub mod Filters
pub mod Silence
pub mod Pieces
pub mod Drill
pub mod FiniteInputInfiniteSignal
mod Orders
