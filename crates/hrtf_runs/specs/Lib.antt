-- Runs, demand 3 said over them, and runs of what was set up from a bank.
pub mod Runs
pub mod Demand
pub mod NeverRefused
