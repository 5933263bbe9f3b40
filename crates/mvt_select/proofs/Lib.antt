pub mod Selected
pub mod Named
pub mod Chosen
mod Names
