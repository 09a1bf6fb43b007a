pub mod Moving
pub mod Periods
pub mod Laws
