pub mod Beginning
pub mod Script
pub mod States
pub mod Turns
pub mod Laws
