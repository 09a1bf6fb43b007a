pub mod Conditions
pub mod Ends
pub mod Outcome
pub mod Written
pub mod Laws
