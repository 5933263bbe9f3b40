pub mod AnswerLaws
pub mod Overs
pub mod Prefixes
pub mod ReplyEnds
pub mod Replying
pub mod Headlines
pub mod DeviceLaws
