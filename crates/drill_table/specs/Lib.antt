-- The marked drill table.
pub mod Table
