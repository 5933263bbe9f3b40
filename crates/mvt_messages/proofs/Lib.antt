pub mod Pieces
pub mod Fields
mod Taken
