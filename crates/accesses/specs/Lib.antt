pub mod Masters
pub mod Offsets
pub mod Reading
pub mod Sides
pub mod Writing
pub mod Laws
