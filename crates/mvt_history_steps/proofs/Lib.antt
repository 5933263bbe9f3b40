pub mod Counting
mod MarkPlaces
mod Lowered
pub mod Stepping
pub mod MarkOrder
pub mod Sound
pub mod Turned
pub mod Following
pub mod Joined
