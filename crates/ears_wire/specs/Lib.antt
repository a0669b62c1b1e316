-- The words of the promises of `ears_wire`.
pub mod Records
pub mod Frames
pub mod Ears
pub mod Counting
pub mod Line
pub mod Promise
