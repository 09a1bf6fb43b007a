pub mod Keeps
pub mod Shared
pub mod Stays
