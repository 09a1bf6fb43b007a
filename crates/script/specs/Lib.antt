pub mod Lines
pub mod Put
pub mod Records
pub mod SetUps
pub mod Windows
pub mod Laws
