pub mod Both
pub mod Fields
