pub mod SetUpLaws
