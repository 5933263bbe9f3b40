pub mod Printed
pub mod Listing
pub mod ListingStands
pub mod Laws
