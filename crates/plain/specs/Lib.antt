pub mod Idle
pub mod Places
pub mod Turn
pub mod Laws
