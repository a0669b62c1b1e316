-- Laws of the binaural rows. Crates above cite `Mirror`, lists negated at named places; `Sound`, that the rows are
-- finite; and `Ears`, that the ears swap.
mod PutEars
mod Orders
pub mod Mirror
pub mod Sound
pub mod Ears
mod Worked
mod Refuted
mod Unique
