pub mod Texts
pub mod TextStands
pub mod Extends
pub mod ReadBack
pub mod Laws
