pub mod Faults
pub mod Heads
pub mod IdleLaws
pub mod PartLaws
pub mod PlaceLaws
pub mod TurnLaws
