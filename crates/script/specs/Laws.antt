pub mod LineLaws
pub mod RecordLaws
pub mod SetUpLaws
pub mod WindowLaws
