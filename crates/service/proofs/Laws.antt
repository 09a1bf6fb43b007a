pub mod Falling
pub mod RunsIn
pub mod RunsOut
pub mod Turns
