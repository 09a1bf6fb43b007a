pub mod FitLaws
pub mod FittedLaws
pub mod FrameLaws
pub mod HolderLaws
pub mod PutLaws
pub mod RangeLaws
pub mod RoomLaws
pub mod SearchLaws
