pub mod Writing
pub mod Digits
pub mod Lists
pub mod Spelled
pub mod Feeds
mod Readable
pub mod Numerals
pub mod ReadAgain
pub mod ReadPoints
