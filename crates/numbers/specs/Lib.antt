-- The words of the promises of `numbers`. A reader believes `Conversions`, `Roots` and `Normalization`, which say
-- document 01; `Computed` says what the program makes, and the promises tie it to them.
-- Its last record is what functions that are not public promise each other.
pub mod Conversions
pub mod Roots
pub mod Computed
pub mod Promise
pub mod Normalization
