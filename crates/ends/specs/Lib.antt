pub mod Ends
pub mod laws
