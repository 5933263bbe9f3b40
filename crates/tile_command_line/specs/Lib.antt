pub mod Defaulted
pub mod Depth
