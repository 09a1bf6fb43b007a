pub mod CollectLaws
pub mod Packed
pub mod ReceiveLaws
