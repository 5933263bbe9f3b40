-- Laws of selection, in the words of a tile.
use Rattle.std.specs.Prelude.{◌≡◌, ◌↔◌, ℕ, List, Some, option_map, slice_get, Ok, Err}
use Rattle.mvt_document.specs.Plain.{Document, Layer}
use Rattle.mvt_meaning.specs.Command.{Named, WithId}
use Rattle.mvt_messages.specs.Views.{features, id_of, layers, name_of}
use Rattle.mvt_meaning.specs.Selection.{selected, selected_feature}
use Rattle.mvt_meaning.specs.declared.refusal.Refusal.TheVariants.{NoFeature, NoLayer}

-- the layer of this ordinal has this name (tiles 4.1)
abbrev pub HasName : List ℕ → ℕ → Document → Type 0
HasName name ordinal document = option_map name_of (slice_get (layers document) ordinal) ≡ Some (Some name)

-- a name selects the layer of an ordinal exactly where that layer has the name and no other layer has it (tiles 4.1)
abbrev pub NameMeansTheOne : Type 0
NameMeansTheOne = (name : List ℕ) (document : Document) (ordinal : ℕ) → (selected (Named name) document ≡ Ok ordinal) ↔ ((other : ℕ) → HasName name other document ↔ (other ≡ ordinal))

-- a name is refused with NoLayer exactly where no layer has it (tiles 4.1)
abbrev pub NameMeansNone : Type 0
NameMeansNone = (name : List ℕ) (document : Document) → (selected (Named name) document ≡ Err NoLayer) ↔ ((other : ℕ) → ¬ HasName name other document)

-- the feature of this ordinal has this id (tiles 4.2)
abbrev pub HasId : ℕ → ℕ → Layer → Type 0
HasId id ordinal layer = option_map id_of (slice_get (features layer) ordinal) ≡ Some (Some id)

-- an id selects the feature of an ordinal in a layer exactly where that feature has the id and no other feature of the
-- layer has it (tiles 4.2)
abbrev pub IdMeansTheOne : Type 0
IdMeansTheOne = (id : ℕ) (layer : Layer) (ordinal : ℕ) → (selected_feature (WithId id) layer ≡ Ok ordinal) ↔ ((other : ℕ) → HasId id other layer ↔ (other ≡ ordinal))

-- an id is refused with NoFeature exactly where no feature of the layer has it (tiles 4.2)
abbrev pub IdMeansNone : Type 0
IdMeansNone = (id : ℕ) (layer : Layer) → (selected_feature (WithId id) layer ≡ Err NoFeature) ↔ ((other : ℕ) → ¬ HasId id other layer)
