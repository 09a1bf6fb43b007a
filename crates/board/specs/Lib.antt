pub mod Collect
pub mod Outcomes
pub mod Numbers
pub mod One
pub mod Receive
pub mod Laws
