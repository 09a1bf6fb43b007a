pub mod Addresses
pub mod Loading
pub mod Round
pub mod Share
