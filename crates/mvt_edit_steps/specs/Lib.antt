pub mod Fates
pub mod Once
pub mod Decided
pub mod Prepared
pub mod PutsLast
pub mod NumberPut
pub mod EachFeature
