use Rattle.std.proofs.Common.{ap}
use Rattle.mvt_document.specs.declared.document.LayerItem.TheVariants.{Feature}
use Rattle.mvt_document.proofs.places.change_in_feature.Goals as goal

pub returns : goal.returns
returns g c =
    rw c.in-Feature.is (_, c.change.ensures.made, ap Feature c.change.ensures.kept)
