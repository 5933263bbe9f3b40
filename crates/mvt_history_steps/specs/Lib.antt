pub mod Marks
pub mod History
pub mod Requests
pub mod Standing
pub mod Held
pub mod Moves
pub mod Reached
pub mod Session
