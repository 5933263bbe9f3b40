pub mod Marks
pub mod Pools
