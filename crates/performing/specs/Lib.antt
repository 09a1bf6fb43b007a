pub mod Perform
pub mod Laws
