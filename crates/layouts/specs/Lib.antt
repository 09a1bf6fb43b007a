pub mod Answers
pub mod Example
pub mod Layouts
pub mod Runs
pub mod Same
pub mod Shifting
pub mod Statement
pub mod Laws
