pub mod RCR
pub mod RSR
pub mod TCR
pub mod TMMR
pub mod TSR
