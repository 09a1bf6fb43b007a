pub mod Keeps
pub mod Openings
