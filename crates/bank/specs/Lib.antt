-- What reading, writing and the two conversions promise, and the bank of the marked drill example.
pub mod Reading
pub mod Writing
pub mod Conversion
pub mod Drill
