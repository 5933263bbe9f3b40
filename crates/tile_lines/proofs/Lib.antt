pub mod LineCuts
pub mod LineLaws
pub mod WholeLines
pub mod Cutting
pub mod Again
pub mod Found
mod Lone
mod Counted
pub mod Places
pub mod Repeats
pub mod Short
