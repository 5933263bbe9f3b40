pub mod Shapes
pub mod Integers
pub mod Walks
pub mod Stands
pub mod Checks
pub mod Found
pub mod Laws
