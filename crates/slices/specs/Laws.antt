pub mod InStep
pub mod Keeps
pub mod Openings
