pub mod Missing
pub mod Nothing
