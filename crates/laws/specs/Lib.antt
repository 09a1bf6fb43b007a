pub mod Bits
pub mod Pick
pub mod Laws
