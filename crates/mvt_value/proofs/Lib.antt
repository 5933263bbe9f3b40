pub mod Fields
pub mod Encoded
mod Signed
pub mod Found
