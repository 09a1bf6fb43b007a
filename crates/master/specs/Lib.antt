pub mod Cycle
pub mod Reading
pub mod Ring
pub mod Section
pub mod Side
pub mod Table
pub mod Writing
pub mod Laws
