pub mod Found
pub mod Refused
