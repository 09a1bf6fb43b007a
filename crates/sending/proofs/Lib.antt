pub mod Laws
pub mod Serials
