pub mod Transfers
pub mod Wants
pub mod Laws
