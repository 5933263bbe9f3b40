pub mod CarriedOut
pub mod Once
pub mod Following
pub mod Planned
pub mod Decided
pub mod Going
pub mod Carrying
pub mod Heavy
mod Joining
mod Walking
pub mod PutLast
pub mod Marked
pub mod Refusing
pub mod Putting
pub mod NumberFields
pub mod OneStep
pub mod Limits
pub mod FieldsLeft
pub mod FeatureRenumbered
pub mod Leading
pub mod Come
pub mod EachFeature
pub mod EachLayer
pub mod StepsPassed
pub mod Unreadable
pub mod Deciding
pub mod NamedKeys
