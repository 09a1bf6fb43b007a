pub mod Fit
pub mod SetUp
pub mod Laws
