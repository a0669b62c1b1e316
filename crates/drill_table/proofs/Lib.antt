-- That the marked drill table holds.
pub mod Table
mod BankCases
