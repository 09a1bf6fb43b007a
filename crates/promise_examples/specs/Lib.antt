pub mod Example
pub mod ExampleRun
pub mod ExampleTwo
