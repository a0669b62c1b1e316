-- Numbers as the code writes them.
pub mod Floats
pub mod Zeros
