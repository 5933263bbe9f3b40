pub mod Arguments
pub mod Request
pub mod RequestStands
