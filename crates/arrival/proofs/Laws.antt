pub mod Given
pub mod Loads
pub mod Outcomes
pub mod Reads
pub mod Received
pub mod Words
