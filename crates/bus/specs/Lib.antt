pub mod Masterless
pub mod Plain
pub mod Slice
pub mod Laws
