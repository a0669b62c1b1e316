-- Laws of rows of weights that crates above cite.
pub mod Putting
pub mod PutAppends
pub mod Joined
pub mod WeightsAnswers
pub mod Unique
