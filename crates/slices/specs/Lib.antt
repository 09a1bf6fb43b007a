pub mod Serials
pub mod Slice
pub mod Laws
