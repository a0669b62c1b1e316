-- The laws that the crates above cite. Numbers: what is the same, what is near, what is large.
pub mod Ring
pub mod Order
pub mod Restate
pub mod Close
pub mod Within
pub mod Magnitude
pub mod Divide
-- Floats: each operation is the exact result, rounded once; how far that moves it, and where it does not; and comparing
-- them.
pub mod Closest
pub mod Number
pub mod Compare
pub mod Rounding
pub mod Operations
pub mod Exact
pub mod ExactInFormat
-- Bounds: the calculus of errors, expressions, and quotients by a root.
pub mod Approximates
pub mod Near
pub mod Expression
mod Squares
pub mod Roots
pub mod Sums
pub mod Normalised
-- The definitions at closed numbers.
mod Worked
