-- Laws that crates above cite, that no two records meet one promise, and wrong answers refuted.
pub mod DeskInRange
mod Unique
mod Refuted
