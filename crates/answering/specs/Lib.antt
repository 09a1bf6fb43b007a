pub mod Choice
pub mod Events
pub mod Rules
pub mod Serials
pub mod Laws
