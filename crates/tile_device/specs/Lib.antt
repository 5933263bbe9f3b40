pub mod Device
pub mod Transfer
pub mod Seen
