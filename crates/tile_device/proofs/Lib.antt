pub mod Troubles
pub mod Meeting
pub mod Sending
pub mod Writing
pub mod Supplying
