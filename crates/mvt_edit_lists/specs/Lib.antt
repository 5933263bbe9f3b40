pub mod Placing
pub mod Names
