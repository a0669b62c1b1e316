-- Laws that crates above cite.
pub mod Wrapped
pub mod Differences
pub mod Planning
pub mod Recordings
mod Unique
mod Worked
mod Refuted
