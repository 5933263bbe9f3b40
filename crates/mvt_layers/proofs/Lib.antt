pub mod Pairing
pub mod Yielded
pub mod Placing
pub mod InRun
pub mod ByHash
mod Equals
