-- The words of the promises of `channel`.
pub mod Layouts
pub mod Orders
