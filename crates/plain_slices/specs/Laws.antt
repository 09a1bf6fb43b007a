pub mod Kept
pub mod Listeners
pub mod Steps
pub mod Talkers
