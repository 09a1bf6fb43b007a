pub mod History
pub mod Statement
