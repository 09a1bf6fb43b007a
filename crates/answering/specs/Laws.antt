pub mod Hears
pub mod Listening
pub mod Parts
pub mod Shared
