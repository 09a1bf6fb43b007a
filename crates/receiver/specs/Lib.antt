pub mod Bits
pub mod Fields
pub mod Groups
pub mod Moves
pub mod Periods
pub mod Requests
pub mod Side
pub mod Laws
