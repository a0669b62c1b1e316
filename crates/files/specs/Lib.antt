-- The words of the promises of `files`.
pub mod Promise
