pub mod Gaps
pub mod Runs
pub mod Backwards
