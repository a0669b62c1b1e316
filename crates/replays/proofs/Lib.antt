-- The theorems, for crates above to cite; then the worked recording, and the answers that the promise refutes.
pub mod Calls
pub mod Fed
pub mod Demand
mod Worked
mod Refuted
