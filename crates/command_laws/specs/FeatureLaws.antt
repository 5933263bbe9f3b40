-- Laws of the commands on features of a layer, in the words of a tile: what an accepted command makes.
use Rattle.std.specs.Prelude.{◌≡◌, ℕ, ◌/◌, List, [], ◌∷◌, ◌++◌, Some, None, Ok, map, slice_get}
use Rattle.std.specs.List.{filter_map, remove}
use Rattle.mvt_document.specs.Plain.{Feature, Layer, Document}
use Rattle.mvt_geometry.specs.Shapes.{Geometry, IsGeometry}
use Rattle.mvt_messages.specs.Numbers.{numbers}
use Rattle.mvt_meaning.specs.Command.{LayerChoice, FeatureChoice, InsertFeature, MoveFeature, DropFeature, SetId, ClearId}
use Rattle.mvt_messages.specs.Views.{features, id_of, plain_fields, value_in}
use Rattle.mvt_view.specs.FeatureGeometry.{HasFeatureGeometry}
use Rattle.mvt_meaning.specs.Selection.{selected_feature}
use Rattle.mvt_meaning.specs.Meaning.{applied, without_id}
use Rattle.command_laws.specs.Kept.{ChangesFeature, ChangesLayer, all_but_last, without_feature}

-- ---- a new feature

-- the feature has this geometry, no id and no tags; its fields are a kind and a geometry (tiles 4.2, 4.3)
pub record IsNew (geometry : Geometry) (feature : Feature) : Type 0 where
  pub drawn : HasFeatureGeometry feature geometry
  pub no_id : id_of feature ≡ None
  pub no_tags : numbers 2 feature.fields ≡ []
  pub only : map (λ field. field.tag.value / 8) feature.fields ≡ 3 ∷ 4 ∷ []

-- the feature of this ordinal is new and has the geometry; the other features, the other fields of the layer, and both
-- together are the former ones, in their order (tiles 4.2)
pub record InsertsFeature (index : ℕ) (geometry : Geometry) (old new : Layer) : Type 0 where
  pub feature : Feature
  pub there : slice_get (features new) index ≡ Some feature
  pub drawn : IsNew geometry feature
  pub others : remove (features new) index ≡ features old
  pub fields : plain_fields new.items ≡ plain_fields old.items
  pub items : without_feature index new ≡ Some old.items

-- an accepted insertion of a valid geometry puts a feature with it at the given ordinal of the selected layer, and
-- nothing else differs
abbrev pub InsertFeatureInserts : Type 0
InsertFeatureInserts = (choice : LayerChoice) (index : ℕ) (geometry : Geometry) (old new : Document) → IsGeometry geometry → applied (InsertFeature choice index geometry) old ≡ Ok new → ChangesLayer choice (InsertsFeature index geometry) old new

-- ---- another order

-- the selected feature has this ordinal now; the other features, the other fields of the layer, and both together keep
-- their order (tiles 4.2)
pub record MovesFeature (choice : FeatureChoice) (index : ℕ) (old new : Layer) : Type 0 where
  pub ordinal : ℕ
  pub selects : selected_feature choice old ≡ Ok ordinal
  pub there : slice_get (features new) index ≡ slice_get (features old) ordinal
  pub others : remove (features new) index ≡ remove (features old) ordinal
  pub fields : plain_fields new.items ≡ plain_fields old.items
  pub items : without_feature index new ≡ without_feature ordinal old

-- an accepted move brings the selected feature to the given ordinal, in its layer, and nothing else differs
abbrev pub MoveFeatureMoves : Type 0
MoveFeatureMoves = (choice : LayerChoice) (feature : FeatureChoice) (index : ℕ) (old new : Document) → applied (MoveFeature choice feature index) old ≡ Ok new → ChangesLayer choice (MovesFeature feature index) old new

-- ---- fewer features

-- the selected feature is gone; the other features, the other fields of the layer, and both together stay, in their
-- order (tiles 4.2)
pub record DropsFeature (choice : FeatureChoice) (old new : Layer) : Type 0 where
  pub ordinal : ℕ
  pub selects : selected_feature choice old ≡ Ok ordinal
  pub others : features new ≡ remove (features old) ordinal
  pub fields : plain_fields new.items ≡ plain_fields old.items
  pub items : Some new.items ≡ without_feature ordinal old

-- an accepted drop removes the selected feature from its layer, and nothing else differs
abbrev pub DropFeatureDrops : Type 0
DropFeatureDrops = (choice : LayerChoice) (feature : FeatureChoice) (old new : Document) → applied (DropFeature choice feature) old ≡ Ok new → ChangesLayer choice (DropsFeature feature) old new

-- ---- ids

-- the values of the id fields of a feature, in order; the last is its id (tiles 4.2)
abbrev pub ids : Feature → List ℕ
ids feature = filter_map (value_in 1) feature.fields

-- the feature has this id in place of its last one, after its other ids in their order, and all its fields other than
-- ids, in their order (tiles 4.2)
pub record SetsId (id : ℕ) (old new : Feature) : Type 0 where
  pub has : id_of new ≡ Some id
  pub last : ids new ≡ all_but_last (ids old) ++ id ∷ []
  pub others : without_id new.fields ≡ without_id old.fields

-- an accepted id becomes that of the selected feature, and nothing but its ids differs; where these stand among its
-- fields, and how they are spelled, is left open
abbrev pub SetIdSets : Type 0
SetIdSets = (choice : LayerChoice) (feature : FeatureChoice) (id : ℕ) (old new : Document) → applied (SetId choice feature id) old ≡ Ok new → ChangesLayer choice (ChangesFeature feature (SetsId id)) old new

-- the feature has no id, and all its fields other than ids, in their order (tiles 4.2)
pub record ClearsId (old new : Feature) : Type 0 where
  pub none : id_of new ≡ None
  pub others : new.fields ≡ without_id old.fields

-- where clearing the id is accepted, the selected feature has none, and nothing but its ids differs
abbrev pub ClearIdClears : Type 0
ClearIdClears = (choice : LayerChoice) (feature : FeatureChoice) (old new : Document) → applied (ClearId choice feature) old ≡ Ok new → ChangesLayer choice (ChangesFeature feature ClearsId) old new
