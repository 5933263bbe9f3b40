pub use Rattle.mvt_history_steps.specs.Session
pub mod Inside
pub mod Kept
pub mod Refusing
