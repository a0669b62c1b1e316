-- The words of the promises of `checks`, and of the crates above.
pub mod Finite
pub mod Lengths
