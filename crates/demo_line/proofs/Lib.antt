-- A line put together, the answers to a record, that no two answers meet the promise, and answers that it refutes.
mod Line
mod Places
mod Unique
mod Refuted
