pub mod InMemory
pub mod Leaves
pub mod Statement
