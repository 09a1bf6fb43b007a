pub mod Carried
pub mod Heads
pub mod Tests
pub mod Laws
