-- The words of the promises of `ambisonic_decoder`.
pub mod Blocks
pub mod Promise
