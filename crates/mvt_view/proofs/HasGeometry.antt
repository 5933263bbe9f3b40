-- A feature that has a geometry, and the geometry that is found among its numbers.
use Rattle.std.proofs.Common.{◌≡◌, ℕ, true, is_some, Option, Some, None, List, refl, ap, ◌∙◌}
use Rattle.std.specs.Option.{option_and_then}
use Rattle.mvt_document.specs.Plain.{Feature}
use Rattle.mvt_messages.specs.Attributes.{values_in}
use Rattle.mvt_messages.specs.Numbers.{numbers}
use Rattle.mvt_messages.specs.Views.{kind_of}
use Rattle.mvt_geometry.specs.Found.{geometry_in}
use Rattle.mvt_geometry.specs.Shapes.{Geometry}
use Rattle.mvt_geometry.proofs.Found.{found_geometry, has_found_geometry}
use Rattle.mvt_view.specs.FeatureGeometry.{HasFeatureGeometry}

-- the geometry that is found among the feature's numbers of field 4
abbrev geometry_found : Feature → Option Geometry
geometry_found feature = option_and_then (geometry_in (kind_of feature)) (values_in (numbers 4 feature.fields))

found_by : (feature : Feature) (found : Option (List ℕ)) (geometry : Option Geometry) → values_in (numbers 4 feature.fields) ≡ found → option_and_then (geometry_in (kind_of feature)) found ≡ geometry → is_some geometry ≡ true → (g : Geometry) × HasFeatureGeometry feature g
found_by feature None None read is some = absurd cc
found_by feature None (Some g) read is some = absurd cc
found_by feature (Some list) None read is some = absurd cc
found_by feature (Some list) (Some g) read is some = (g, record { integers = list; read = read; has = has_found_geometry (kind_of feature) list g is })

-- a geometry that is found is the feature's
pub geometry_of : (feature : Feature) → is_some (geometry_found feature) ≡ true → (g : Geometry) × HasFeatureGeometry feature g
geometry_of feature some = found_by feature (values_in (numbers 4 feature.fields)) (geometry_found feature) refl refl some

-- where a feature has a geometry, one is found
pub is_found : (feature : Feature) (geometry : Geometry) → HasFeatureGeometry feature geometry → is_some (geometry_found feature) ≡ true
is_found feature geometry h =
    ap (λ (found : Option Geometry). is_some found) (ap (option_and_then (geometry_in (kind_of feature))) h.read ∙ found_geometry (kind_of feature) h.integers geometry h.has)
