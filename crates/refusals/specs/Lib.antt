-- What a range is, and what a refusal number is.
pub mod Ranges
pub mod Refusals
pub mod Numbers
