pub mod Values
pub mod Signed
pub mod Messages
pub mod Stands
pub mod Found
pub mod Laws
