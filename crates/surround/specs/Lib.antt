-- The words of the promise of `surround`: `Formula` says documents 01 and 02, `Computed` what the program makes,
-- `Promise` ties the two, `PointedAt` says what the formula means, and `Drill` what the program gives where the drill
-- table asks.
pub mod Formula
pub mod Computed
pub mod Promise
pub mod Drill
pub mod PointedAt
