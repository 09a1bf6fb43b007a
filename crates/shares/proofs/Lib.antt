pub mod Example
pub mod Laws
pub mod Promise
