pub mod Pools
pub mod Seen
pub mod Laws
pub mod WithId
