-- What row choice promises.
pub mod Nearest
pub mod Choice
pub mod Computed
