pub mod Ends
pub mod Head
pub mod Masters
pub mod Receivers
pub mod Rings
pub mod Transmitters
pub mod Window
pub mod Laws
