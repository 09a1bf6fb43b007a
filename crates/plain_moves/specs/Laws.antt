pub mod Moved
pub mod Sides
