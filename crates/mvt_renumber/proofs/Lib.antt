pub mod Decisions
pub mod Making
pub mod Reread
pub mod PackedLeft
pub mod Redone
pub mod DecidedTwice
pub mod FieldFate
