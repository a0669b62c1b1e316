-- The theorems of demand 3, a worked run that meets their premises, worked calls in states that stand for no history,
-- the answers that the promise refutes, and that a bank which keeps the form is never refused.
mod Calls
pub mod Demand
pub mod Worked
mod States
mod Refuted
pub mod NeverRefused
