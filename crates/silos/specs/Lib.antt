pub mod Cells
pub mod Silo
pub mod Laws
