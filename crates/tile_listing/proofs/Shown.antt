-- The value that bytes have, and the geometry that a feature has.
use Rattle.std.proofs.Common.{◌≡◌, ℕ, List, Option, Some, None, refl, ap}
use Rattle.std.specs.Prelude.{IfSome}
use Rattle.std.specs.Option.{option_and_then, option_map_or}
use Rattle.mvt_document.specs.Plain.{Feature}
use Rattle.mvt_value.specs.Values as plain
use Rattle.mvt_value.specs.Messages.{HasValue}
use Rattle.mvt_value.specs.Stands.{shown_by, raw_of}
use Rattle.mvt_value.specs.declared.value.Value.{Value}
use Rattle.mvt_value.specs.declared.value.Value.TheVariants as shown
use Rattle.mvt_messages.specs.Numbers.{numbers}
use Rattle.mvt_geometry.specs.Shapes.{Geometry}
use Rattle.mvt_messages.specs.Views.{kind_of}
use Rattle.mvt_messages.specs.Attributes.{values_in}
use Rattle.mvt_view.specs.FeatureGeometry.{HasFeatureGeometry}
use Rattle.mvt_value.specs.Found.{value_in}
use Rattle.mvt_geometry.specs.Found.{geometry_in}
use Rattle.mvt_value.proofs.Found.{shown_value_in}
use Rattle.mvt_geometry.proofs.Found.{found_geometry, no_geometry_in}
use Rattle.tile_text.specs.Texts.{value_form, raw_form}
use Rattle.tile_text.specs.TextStands.{shown_form}
use Rattle.mvt_meaning.specs.Geometries.{geometry_among}
use Rattle.tile_listing.specs.Listing.{value_shown}

-- ---- values

-- what is shown of bytes is the value that they have, or else the bytes
pub shown_is : (bytes : List ℕ) (value : Value) → IfSome (shown_by value) (HasValue bytes) → ((plain : plain.Value) → HasValue bytes plain → shown_by value ≡ Some plain) → IfSome (raw_of value) (λ kept. kept ≡ bytes) → shown_form value ≡ value_shown bytes
shown_is bytes value has only raw = by_found value (value_in bytes) (shown_value_in bytes (shown_by value) has only) raw
  where
    by_found : (value : Value) (found : Option plain.Value) → shown_by value ≡ found → IfSome (raw_of value) (λ kept. kept ≡ bytes) → shown_form value ≡ option_map_or value_form found (raw_form bytes)
    by_found (shown.Raw kept) found e raw = rw (← e) (ap raw_form raw)
    by_found (shown.Text text) found e raw = rw (← e) refl
    by_found (shown.Float4 float) found e raw = rw (← e) refl
    by_found (shown.Double8 double) found e raw = rw (← e) refl
    by_found (shown.Int number) found e raw = rw (← e) refl
    by_found (shown.Uint number) found e raw = rw (← e) refl
    by_found (shown.Sint number) found e raw = rw (← e) refl
    by_found (shown.Bool truth) found e raw = rw (← e) refl

-- ---- geometries

pub with_geometry : (feature : Feature) (geometry : Geometry) → HasFeatureGeometry feature geometry → geometry_among feature.fields ≡ Some geometry
with_geometry feature geometry h = rw h.read (found_geometry (kind_of feature) h.integers geometry h.has)

none_in : (feature : Feature) (read : Option (List ℕ)) → values_in (numbers 4 feature.fields) ≡ read → ((geometry : Geometry) → HasFeatureGeometry feature geometry → ⊥) → option_and_then (geometry_in (kind_of feature)) read ≡ None
none_in feature None r none = refl
none_in feature (Some integers) r none = no_geometry_in (kind_of feature) integers (λ geometry has. none geometry (record { integers = integers; read = r; has = has }))

pub without_geometry : (feature : Feature) → ((geometry : Geometry) → HasFeatureGeometry feature geometry → ⊥) → geometry_among feature.fields ≡ None
without_geometry feature none = none_in feature (values_in (numbers 4 feature.fields)) refl none
