-- Laws that crates above cite, and that no two numbers meet one promise.
pub mod Refusing
mod Unique
