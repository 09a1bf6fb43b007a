pub mod Checks
pub mod Moves
pub mod Opening
pub mod Outcomes
pub mod ReceivingWords
pub mod SendingWords
pub mod Slicing
pub mod Waiting
