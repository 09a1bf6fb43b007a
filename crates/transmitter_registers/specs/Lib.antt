pub mod Reading
pub mod Shown
pub mod Writing
pub mod Laws
