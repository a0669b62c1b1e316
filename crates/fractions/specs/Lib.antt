-- What the promises of the crates above are said over.
pub mod Fraction
pub mod Squares
