pub mod Lines
pub mod Cutting
pub mod CutStands
pub mod Words
pub mod WordStands
pub mod Spelling
pub mod Answers
