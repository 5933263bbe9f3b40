mod FirstIntegers
mod FirstMoved
mod Further
mod OrRefused
mod Shifted
pub mod Drawn
pub mod FeatureFits
pub mod Redrawn
pub mod GeometrySet
