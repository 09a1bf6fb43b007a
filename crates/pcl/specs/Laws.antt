pub mod Admitted
pub mod Bounds
pub mod Cases
pub mod Named
pub mod Narrow
pub mod Packed
pub mod Refused
pub mod Values
