pub mod Putting
pub mod Runs
