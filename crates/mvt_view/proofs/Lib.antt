pub mod HasGeometry
pub mod Integers
pub use Rattle.mvt_layers.proofs.Pairing
pub use Rattle.mvt_layers.proofs.Yielded
pub use Rattle.mvt_layers.proofs.Placing
pub use Rattle.mvt_layers.proofs.InRun
