pub mod Views
pub mod Found
pub mod Attributes
pub mod Tags
pub mod Numbers
pub mod Left
pub mod Seen
pub mod Laws
