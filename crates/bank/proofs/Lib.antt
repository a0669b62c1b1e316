-- Laws that a caller's proof cites, what the promises say together, the marked example, one answer, worked conversions,
-- refuted answers, and the laws of the loops that fill lent lists.
pub mod Meets
pub mod Converting
pub mod Laws
pub mod Drill
pub mod Unique
mod Worked
mod Refuted
mod Fill
