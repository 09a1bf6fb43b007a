pub mod BitLaws
pub mod Keeps
pub mod Shared
