-- Laws of chains of tests, which crates above cite. Then why the tests are right, and that no two answers meet one
-- promise.
pub mod Checks
mod Tests
mod Unique
