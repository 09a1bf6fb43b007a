pub mod Fitted
pub mod Index
pub mod Layout
pub mod Ranges
pub mod Search
pub mod Unit
pub mod Laws
