pub mod Agreeing
pub mod Events
pub mod Fits
pub mod Moves
pub mod Sames
pub mod Shifting
pub mod Slices
pub mod Units
