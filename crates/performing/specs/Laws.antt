pub mod LineLaws
pub mod PerformLaws
