pub mod Counting
pub mod NearLaws
pub mod Packed
pub mod RingLaws
pub mod Rooms
pub mod Totals
pub mod Walking
