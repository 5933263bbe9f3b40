pub mod Attribute
pub mod EachFeature
pub mod KeyFates
