pub mod Digits
pub mod Judged
pub mod Refusals
pub mod Meant
pub mod Each
mod Pairs
pub mod Points
pub mod Shaped
