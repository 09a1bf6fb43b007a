pub mod SerialKept
pub mod Shared
pub mod Talking
