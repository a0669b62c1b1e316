-- The laws of conversions and roots. First those that hold in every format, then those of this program, whose digits
-- are binary64's and binary32's. Crates above cite `Close` (how near a root is, by squares), `Zeros` (sums, products
-- and quotients of zeros), `RootAnswer` (the value that is answered), `Normalization` (the inverse of a root), `Meets`
-- (what is computed meets document 01's words) and `Drill`.
mod Rounded
mod Narrows
mod Squares
mod Rooting
mod Half
mod Middle
pub mod Close
pub mod Zeros
pub mod RootAnswer
pub mod Normalization
mod Narrowing
mod Turns
mod Tests
pub mod Meets
mod Unique
pub mod Drill
mod Refuted
