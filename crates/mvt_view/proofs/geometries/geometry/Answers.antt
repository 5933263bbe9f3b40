use Rattle.std.proofs.Common.{sym, ◌∙◌}
use Rattle.mvt_document.proofs.Options.{none_is}
use Rattle.mvt_view.specs.FeatureGeometry.{integers_in}
use Rattle.mvt_layers.specs.Seen.{feature_seen}
use Rattle.mvt_view.proofs.Integers.{no_geometry}
use Rattle.mvt_view.proofs.geometries.geometry.Goals as goal

pub returns-then-is_none-clause-bad : goal.returns-then-is_none-clause-bad
returns-then-is_none-clause-bad c =
    let no_kind = rw (none_is c.from_number.result c.if-is_none.ensures) at c.from_number.ensures.none in
    λ bad geometry found. no_kind geometry.kind (sym (c.kind-kind.ensures ∙ found.has.of_kind))

pub returns-then-not-are_integers-clause-bad : goal.returns-then-not-are_integers-clause-bad
returns-then-not-are_integers-clause-bad c =
    let none = none_is (integers_in c.geometry_numbers.result) (sym c.are_integers.ensures ∙ c.if-not-are_integers.true) in
    λ bad geometry has. no_geometry (feature_seen c.args.feature.now) geometry (rw c.geometry_numbers.ensures at none) has
