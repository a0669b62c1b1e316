-- `Digits` names no format, only a number of digits p; `Patterns`, `Grid`, `Normal`, `Dropped`, `Exchanged`, `Signs`,
-- `Zeros`, `Added` and `Opposite` hold in every format.
pub mod Digits
pub mod Patterns
pub mod Grid
pub mod Normal
pub mod Dropped
pub mod Exchanged
pub mod Signs
pub mod Zeros
pub mod Added
pub mod Opposite
