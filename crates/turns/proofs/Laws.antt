pub mod Events
pub mod LoadLaws
pub mod Planned
pub mod RoundLaws
pub mod Runs
