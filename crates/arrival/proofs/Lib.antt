pub mod Arrival
pub mod Example
pub mod Laws
pub mod Loads
