pub mod Renumbering
pub mod Fates
pub mod Deciding
pub mod Laws
