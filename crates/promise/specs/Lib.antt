pub mod Conditions
pub mod Kinds
pub mod Opening
pub mod Reports
pub mod Statement
pub mod Transfers
pub mod World
