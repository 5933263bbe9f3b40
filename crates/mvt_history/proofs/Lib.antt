pub mod Closed
pub mod Moving
pub mod Marking
pub mod Keeping
pub mod KeepingCommands
