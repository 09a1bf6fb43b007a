pub mod Laws
pub mod Received
