pub mod Printing
pub mod Lines
pub mod Shown
pub mod Puts
pub mod PairLines
pub mod Listed
pub mod LineLaws
pub mod ListingLaws
pub mod There
mod Choosing
mod KindWords
