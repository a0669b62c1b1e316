-- The words of the promise of `demo_line`.
pub mod Records
