pub mod FeatureGeometry
pub use Rattle.mvt_messages.specs.Views
pub use Rattle.mvt_messages.specs.Found
pub use Rattle.mvt_messages.specs.Attributes
pub use Rattle.mvt_messages.specs.Tags
pub use Rattle.mvt_layers.specs.Pools
pub use Rattle.mvt_layers.specs.Seen
pub use Rattle.mvt_layers.specs.Laws
