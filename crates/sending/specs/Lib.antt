pub mod Chart
pub mod Choice
pub mod Events
pub mod Hearing
pub mod Serials
pub mod Laws
