-- Laws that crates above cite: of lists, of a function that goes through them, of tables, of parts that are put in, of
-- a list that is filled place by place or made by a closure, of lists that are joined, of what is so of every element,
-- by a test or by a kind, of a loop that goes through a table, of what is chosen by a test, and of answers that an
-- equation determines.
pub mod Lists
pub mod Mapped
pub mod Tables
pub mod Placed
pub mod Filling
pub mod Made
pub mod Joined
pub mod Every
pub mod ForAll
pub mod LoopOverTable
pub mod Tests
pub mod Determined
