-- Laws of the commands on geometry, in the words of a tile: what an accepted command makes.
use Rattle.std.specs.Prelude.{◌≡◌, ◌≢◌, ℕ, ◌^◌, ◌≤◌, not, ℤ, pos, neg_ℤ, ◌+ℤ◌, List, [], ◌∷◌, ◌++◌, Option, Some, None, Ok, length, map, filter, slice_get}
use Rattle.std.specs.List.{AllByRecursion, filter_map}
use Rattle.mvt_document.specs.declared.TheConstants.{MAX_FILE}
use Rattle.mvt_document.specs.Opens.{IsDocument}
use Rattle.mvt_document.specs.Plain.{Number, Body, Delimited, Field, Feature, Layer, Document}
use Rattle.mvt_document.specs.Signed.{zigzag}
use Rattle.mvt_document.specs.Wire.{bytes_of, minimal}
use Rattle.mvt_geometry.specs.Integers.{IsInRange, encoded, integers}
use Rattle.mvt_geometry.specs.Laws.{IsWithin}
use Rattle.mvt_geometry.specs.Shapes.{Geometry, IsGeometry, kind_number}
use Rattle.mvt_geometry.specs.declared.shapes.Point.{Point}
use Rattle.mvt_renumber.specs.Laws.{read_numbers}
use Rattle.mvt_messages.specs.Numbers.{numbers}
use Rattle.mvt_renumber.specs.Renumbering.{field_numbers, with_number}
use Rattle.mvt_meaning.specs.Command.{LayerChoice, FeatureChoice, Shift, SetGeometry}
use Rattle.mvt_messages.specs.Attributes.{values_in}
use Rattle.mvt_view.specs.FeatureGeometry.{HasFeatureGeometry}
use Rattle.mvt_messages.specs.Views.{features, layers, value_in}
use Rattle.mvt_meaning.specs.Fields.{new_content}
use Rattle.mvt_meaning.specs.Geometries.{further, is_geometry_field, is_kind}
use Rattle.mvt_meaning.specs.Meaning.{applied, fields_of}
use Rattle.mvt_meaning.specs.Selection.{selected, selected_in}
use Rattle.command_laws.specs.Kept.{ChangesFeature, ChangesLayer, all_but_last}

-- ---- a feature and its fields

-- the fields of a feature that are not geometry fields (tiles 4.2)
abbrev pub without_geometry : List Field → List Field
without_geometry fields = filter (λ field. not (is_geometry_field field)) fields

-- the fields of a feature that are not kind fields (tiles 4.2)
abbrev pub without_kind : List Field → List Field
without_kind fields = filter (λ field. not (is_kind field)) fields

-- the stored width of the length of a LEN body; none for another body (guide, Message Structure)
abbrev pub stored_width : Body → Option ℕ
stored_width (Delimited width bytes) = Some width
stored_width body = None

-- what comes before the content of a field: its tag, and the stored width of its length, where it has one
abbrev pub front : Field → Number × Option ℕ
front field = (field.tag, stored_width field.body)

-- how many numbers are in a field, where it is a geometry field; else none (guide, Packed Repeated Fields)
abbrev pub number_count : Field → ℕ
number_count field = length (field_numbers 4 field)

-- ---- how far a geometry reaches

-- in a valid document of at most 67,108,864 bytes the integers of a feature lead no further from 0 than 2^57 along
-- either axis, where its deltas are in range: so the bound of 2^62 on coordinates asks nothing more of a geometry
-- (tiles 4.3.2, 4.3.3)
abbrev pub NoCoordinateIsFar : Type 0
NoCoordinateIsFar = (document : Document) (ordinal index : ℕ) (layer : Layer) (feature : Feature) (geometry : Geometry) → IsDocument document → length (bytes_of document) ≤ MAX_FILE → slice_get (layers document) ordinal ≡ Some layer → slice_get (features layer) index ≡ Some feature
    → values_in (numbers 4 feature.fields) ≡ Some (integers geometry) → IsInRange geometry → AllByRecursion (AllByRecursion (IsWithin (2 ^ 57))) geometry.parts

-- ---- a geometry that moves

-- the point that lies dx and dy further
abbrev pub moved_point : ℤ → ℤ → Point → Point
moved_point dx dy point = record { x = point.x +ℤ dx; y = point.y +ℤ dy }

-- the geometry with each point of each part moved by dx and dy
abbrev pub moved : ℤ → ℤ → Geometry → Geometry
moved dx dy geometry = record { kind = geometry.kind; parts = map (map (moved_point dx dy)) geometry.parts }

-- a parameter that leads further by this delta, as it is spelled where its value stays, and in its shortest spelling
-- where it does not (tiles 4.3.2)
abbrev pub led_further : ℤ → Number → Number
led_further delta number = with_number (zigzag (further delta number.value)) number

-- the feature has the geometry that it had, moved by dx and dy, and no other; of the numbers in its geometry fields the
-- second leads further by dx and the third by dy, and each other one is spelled as it was; each field has its tag, its
-- stored width and as many numbers as it had, and all fields that are not geometry fields are as they were
-- (tiles 4.2, 4.3)
pub record Shifts (dx dy : ℤ) (old new : Feature) : Type 0 where
  pub geometry : Geometry
  pub had : HasFeatureGeometry old geometry
  pub has : HasFeatureGeometry new (moved dx dy geometry)
  pub only : (other : Geometry) → HasFeatureGeometry new other → other ≡ moved dx dy geometry
  pub command : Number
  pub along : Number
  pub down : Number
  pub more : List Number
  pub were : read_numbers 4 old.fields ≡ Some (command ∷ along ∷ down ∷ more)
  pub are : read_numbers 4 new.fields ≡ Some (command ∷ led_further dx along ∷ led_further dy down ∷ more)
  pub fronts : map front new.fields ≡ map front old.fields
  pub counts : map number_count new.fields ≡ map number_count old.fields
  pub others : without_geometry new.fields ≡ without_geometry old.fields

-- where a shift of a valid document of at most 67,108,864 bytes is accepted, the geometry of the selected feature moves
-- by that much, and nothing but the first two parameters of its geometry differs
abbrev pub ShiftShifts : Type 0
ShiftShifts = (choice : LayerChoice) (feature : FeatureChoice) (dx dy : ℤ) (old new : Document) → IsDocument old → length (bytes_of old) ≤ MAX_FILE → applied (Shift choice feature dx dy) old ≡ Ok new → ChangesLayer choice (ChangesFeature feature (Shifts dx dy)) old new

-- an accepted shift by 0 and 0 changes nothing
abbrev pub ShiftByNothing : Type 0
ShiftByNothing = (choice : LayerChoice) (feature : FeatureChoice) (old new : Document) → applied (Shift choice feature (pos 0) (pos 0)) old ≡ Ok new → new ≡ old

-- of the first two parameters of the geometry of the selected feature, the first is in its shortest spelling where dx is
-- not 0, and the second where dy is not 0 (tiles 4.3.2)
abbrev pub IsShortIfMoved : ℤ → ℤ → LayerChoice → FeatureChoice → Document → Type 0
IsShortIfMoved dx dy choice feature document = (ordinal found : ℕ) (command along down : Number) (more : List Number) → selected choice document ≡ Ok ordinal → selected_in feature ordinal document ≡ Ok found
    → read_numbers 4 (fields_of ordinal found document) ≡ Some (command ∷ along ∷ down ∷ more) → (dx ≢ pos 0 → along ≡ minimal along.value) × (dy ≢ pos 0 → down ≡ minimal down.value)

-- where a shift of a valid document of at most 67,108,864 bytes is accepted, and the parameters that it changes were in
-- their shortest spelling, shifting back is then accepted and leaves the document as it was
abbrev pub ShiftBack : Type 0
ShiftBack = (choice : LayerChoice) (feature : FeatureChoice) (dx dy : ℤ) (old between : Document) → IsDocument old → length (bytes_of old) ≤ MAX_FILE → IsShortIfMoved dx dy choice feature old → applied (Shift choice feature dx dy) old ≡ Ok between → applied (Shift choice feature (neg_ℤ dx) (neg_ℤ dy)) between ≡ Ok old

-- ---- another geometry

-- the values of the kind fields of a feature, in order; the last is its kind (tiles 4.2)
abbrev pub kinds : Feature → List ℕ
kinds feature = filter_map (value_in 3) feature.fields

-- the feature has this geometry and no other, in one geometry field; its kind is in place of its last one; and all its
-- fields that are neither kind nor geometry are as they were (tiles 4.2, 4.3)
pub record SetsGeometry (geometry : Geometry) (old new : Feature) : Type 0 where
  pub has : HasFeatureGeometry new geometry
  pub only : (other : Geometry) → HasFeatureGeometry new other → other ≡ geometry
  pub last : kinds new ≡ all_but_last (kinds old) ++ kind_number geometry.kind ∷ []
  pub once : filter is_geometry_field new.fields ≡ new_content 34 (encoded geometry) ∷ []
  pub others : without_geometry (without_kind new.fields) ≡ without_geometry (without_kind old.fields)

-- where a valid geometry is accepted, it becomes that of the selected feature, and nothing but its kind and its
-- geometry differs
abbrev pub SetGeometrySets : Type 0
SetGeometrySets = (choice : LayerChoice) (feature : FeatureChoice) (geometry : Geometry) (old new : Document) → IsGeometry geometry → applied (SetGeometry choice feature geometry) old ≡ Ok new → ChangesLayer choice (ChangesFeature feature (SetsGeometry geometry)) old new
