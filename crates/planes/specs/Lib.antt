-- The words of the promises of `planes`, and of the crates above that play blocks.
pub mod Planes
pub mod Sums
pub mod Blocks
