pub mod PlainLaws
