pub mod Counter
pub mod CycleLaws
pub mod Laws
pub mod ReadingLaws
pub mod RingLaws
pub mod Rotation
pub mod Rounds
