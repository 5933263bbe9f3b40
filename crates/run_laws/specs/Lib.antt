pub mod RunLaws
pub mod FaultLaws
pub mod HistoryLaws
