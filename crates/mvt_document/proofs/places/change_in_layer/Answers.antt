use Rattle.std.proofs.Common.{refl, ap}
use Rattle.mvt_document.specs.declared.document.TileItem.TheVariants.{Layer}
use Rattle.mvt_document.proofs.Placing.{same_layer}
use Rattle.mvt_document.proofs.places.change_in_layer.Goals as goal

pub returns : goal.returns
returns g c =
    rw c.in-Layer.is (c.change.new.arg2, record { shown = _; given = _; shows = (refl, refl); ended = _; passed = _; met = c.change.ensures; leaves = (refl, refl) }, ap Layer (same_layer _ _ refl refl refl))
