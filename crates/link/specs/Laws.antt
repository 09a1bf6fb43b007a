pub mod InputLaws
pub mod PartLaws
pub mod ScriptLaws
pub mod TextLaws
pub mod TurnLaws
