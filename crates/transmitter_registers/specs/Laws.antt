pub mod Keeps
pub mod NoInit
pub mod Shared
pub mod Stays
