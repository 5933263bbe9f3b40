pub mod InMemory
pub mod LongScripts
