pub mod Channels
pub mod Example
pub mod Laws
